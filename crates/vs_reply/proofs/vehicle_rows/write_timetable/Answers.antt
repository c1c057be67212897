use Rattle.std.proofs.Common.{◌≡◌, ℕ, ◌<◌, List, ◌++◌, length, get_or, zero-add, sym, ap, ◌∙◌, subst, arith}
use Rattle.std.specs.List.{enumerate_from}
use Rattle.std.proofs.lemmas.List.{get_or-map, length-map}
use Rattle.std.proofs.lemmas.List.Elements.{All-get_or}
use Rattle.std.proofs.lemmas.List.FromFn.{get_or-enumerate_from, length-enumerate_from}
use Rattle.vs_instance.specs.Blocks.{IsBlock}
use Rattle.vs_instance.specs.Plan.{LayerBlock}
use Rattle.vs_plan.specs.Blocks.{pair_of, pairs_of}
use Rattle.vs_reader.specs.Rows.{lines}
use Rattle.vs_rows.proofs.CallerLemmas.{lines-flat_map, wrote_more, wrote_all}
use Rattle.vs_reply.specs.Timetable.{vehicle_rows}
use Rattle.vs_reply.proofs.vehicle_rows.write_timetable.Goals as goal

pub write_block-requires-clause-block : goal.write_block-requires-clause-block
write_block-requires-clause-block c =
    let blocks = c.args.blocks.now in let k = c.loop-k.k in let b = c.index-blocks-k.result in
    let within : k < length blocks = c.loop-k-test.true in
    let same : get_or (pairs_of blocks) k (pair_of b) ≡ pair_of b =
    get_or-map pair_of blocks k b (pair_of b) within ∙ ap pair_of (sym c.index-blocks-k.is) in
    subst (λ (x : LayerBlock). IsBlock c.args.instance.now x.0 x.1) same
    (All-get_or (λ (x : LayerBlock). IsBlock c.args.instance.now x.0 x.1) (pairs_of blocks) k (pair_of b)
    (omega (arith, within, length-map blocks pair_of)) c.requires.plan.each_block)

pub loop-k-preserved : goal.loop-k-preserved
loop-k-preserved c =
    let p = c.args.instance.now in let names = c.args.names.now in
    let blocks = c.args.blocks.now in let k = c.loop-k.k in let b = c.index-blocks-k.result in
    let bytes : ℕ × LayerBlock → List ℕ = λ e. lines (vehicle_rows p names e.0 e.1) in
    let within : k < length blocks = c.loop-k-test.true in
    let many : k < length (pairs_of blocks) = omega (arith, within, length-map blocks pair_of) in
    let same : get_or (pairs_of blocks) k (pair_of b) ≡ pair_of b =
    get_or-map pair_of blocks k b (pair_of b) within ∙ ap pair_of (sym c.index-blocks-k.is) in
    let place : get_or (enumerate_from 0 (pairs_of blocks)) k (k, pair_of b) ≡ (k, pair_of b) =
    get_or-enumerate_from 0 (pairs_of blocks) k (k, pair_of b) many
    ∙ ap (λ (n : ℕ). (n, get_or (pairs_of blocks) k (pair_of b))) (zero-add k)
    ∙ ap (λ (x : LayerBlock). (k, x)) same in
    wrote_more bytes c.args.text.now c.loop-k.text c.write_block.new.text (enumerate_from 0 (pairs_of blocks)) k
    (k, pair_of b) (omega (arith, many, length-enumerate_from 0 (pairs_of blocks))) c.loop-k.invariant
    (c.in_ok-write_block.ensures ∙ ap (λ (e : ℕ × LayerBlock). c.loop-k.text ++ bytes e) (sym place))

pub returns : goal.returns
returns c =
    let p = c.args.instance.now in let names = c.args.names.now in
    let numbered = enumerate_from 0 (pairs_of c.args.blocks.now) in
    let bytes : ℕ × LayerBlock → List ℕ = λ e. lines (vehicle_rows p names e.0 e.1) in
    wrote_all bytes c.args.text.now c.loop-k.text numbered c.loop-k.k
    (omega (arith, length-enumerate_from 0 (pairs_of c.args.blocks.now), length-map c.args.blocks.now pair_of))
    c.loop-k.invariant
    ∙ ap (λ (more : List ℕ). c.args.text.now ++ more)
    (sym (lines-flat_map (λ (e : ℕ × LayerBlock). vehicle_rows p names e.0 e.1) numbered))
