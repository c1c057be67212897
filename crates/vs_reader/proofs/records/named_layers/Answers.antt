use Rattle.std.proofs.Common.{◌-◌, ◌<◌, inl, [], ◌∷◌, length, take, drop, refl, rules, arith}
use Rattle.std.proofs.lemmas.List.{length-drop, take_all}
use Rattle.std.proofs.lemmas.Option.{slice_get_within}
use Rattle.std.proofs.lemmas.Result.{err_from_is_err_and}
use Rattle.csv.specs.Records.{fields_of}
use Rattle.vs_reader.specs.Rows.{field_of}
use Rattle.vs_reader.specs.Rules.{IsNoneOf, known_name}
use Rattle.vs_reader.specs.declared.refused.Why.TheVariants.{NameTwice}
use Rattle.vs_reader.proofs.declaring.RuleLemmas.{AreKept-append, BreaksFirst-skip, BreaksFirst-stop}
use Rattle.vs_reader.proofs.naming.NamedLayers.{next_layer, among_earlier, not_among_earlier, breaks_at, kept_at}
use Rattle.vs_reader.proofs.records.named_layers.Goals as goal

pub returns-in_err-l : goal.returns-in_err-l
returns-in_err-l c =
    let row = fields_of c.args.row.now in
    let k = c.loop-k.k in
    let names = c.args.names.now.layers in
    let within : k < length row = omega (arith, c.len-k-end.ensures) in
    let p = err_from_is_err_and c.from_residual.result c.from_residual.ensures.1 in
    rw (p.1, p.2) (breaks_at names row k c.loop-k.invariant.from within c.loop-k.invariant.kept _
    (BreaksFirst-stop (known_name names (field_of row k))
    (IsNoneOf (take (k - 7) (drop 7 row)) (field_of row k) ∷ []) _
    c.in_err-l.ensures))

pub has-requires : goal.has-requires
has-requires c =
    omega (
      arith,
      slice_get_within c.args.names.now.layers c.in_ok-l.l.0
          (field_of (fields_of c.args.row.now) c.loop-k.k)
          c.in_ok-l.ensures.1.0,
    )

pub returns-then-has : goal.returns-then-has
returns-then-has c =
    let row = fields_of c.args.row.now in
    let k = c.loop-k.k in
    let names = c.args.names.now.layers in
    let within : k < length row = omega (arith, c.len-k-end.ensures) in
    let named = c.in_ok-l.ensures in
    breaks_at names row k c.loop-k.invariant.from within c.loop-k.invariant.kept NameTwice
    (BreaksFirst-skip (known_name names (field_of row k))
    (IsNoneOf (take (k - 7) (drop 7 row)) (field_of row k) ∷ []) NameTwice named.0
    (inl (
      (λ new. new
          (among_earlier names (take (k - 7) (drop 7 row))
          (field_of row k) c.in_ok-l.l.0 c.loop-k.set c.loop-k.invariant.named named.1.0 (search rules))),
      refl,
    )))

pub with-set-requires : goal.with-set-requires
with-set-requires c =
    omega (
      arith,
      slice_get_within c.args.names.now.layers c.in_ok-l.l.0
          (field_of (fields_of c.args.row.now) c.loop-k.k)
          c.in_ok-l.ensures.1.0,
    )

pub loop-k-preserved : goal.loop-k-preserved
loop-k-preserved c =
    let row = fields_of c.args.row.now in
    let k = c.loop-k.k in
    let names = c.args.names.now.layers in
    let early = take (k - 7) (drop 7 row) in
    let within : k < length row = omega (arith, c.len-k-end.ensures) in
    let named = c.in_ok-l.ensures in
    record {
      from = omega arith;
      kept = kept_at names row k c.loop-k.invariant.from within c.loop-k.invariant.kept
          (AreKept-append (known_name names (field_of row k)) (IsNoneOf early (field_of row k) ∷ []) named.0 (
            not_among_earlier names early
                (field_of row k) c.in_ok-l.l.0 c.loop-k.set c.loop-k.invariant.named named.1.0 (search rules),
            tt,
          ));
      named = next_layer names row k c.loop-k.set c.with-set.result c.in_ok-l.l.0 c.loop-k.invariant.from within
          c.loop-k.invariant.named
          named.1.0 named.1.1 (search rules) c.with-set.ensures;
    }

pub returns : goal.returns
returns c =
    let row = fields_of c.args.row.now in
    let all = take_all (c.loop-k.k - 7) (drop 7 row) (omega (arith, length-drop 7 row, c.len-k-end.ensures)) in
    (rw (← all) c.loop-k.invariant.kept, rw (← all) c.loop-k.invariant.named)
