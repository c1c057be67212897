use Rattle.std.proofs.Common.{◌≡◌, ℕ, Option, Some, None, length, ap, subst, ◌∙◌, arith, length-set, replicate, rules, ◌<◌, Vec, Global}
use Rattle.std.proofs.lemmas.List.{get_or_default, length-replicate}
use Rattle.vs_match.specs.declared.arc_kind.ArcKind.{ArcKind}
use Rattle.vs_match.specs.declared.arc_kind.ArcKind.TheVariants.{Return}
use Rattle.vs_match.specs.TripIndex.{IsBelow}
use Rattle.vs_match.proofs.matches.TripIndexes.{IsIndexUpto, get_or-copies, index_none, index_other, index_trip, index_all}
use Rattle.vs_match.proofs.layer_net.trip_index.Goals as goal
use Rattle.vs_match.proofs.layer_net.trip_index.Goals.{in-Trip, in_default}

pub loop-k-init : goal.loop-k-init
loop-k-init c =
    let items : c.in_ok-index.index.items ≡ replicate c.args.trips None =
    c.in_ok-index.ensures.items_if_clones_equal (search rules) in
    record {
      trips = ap length items ∙ length-replicate c.args.trips None;
      index = rw items (index_none c.args.kinds.now _ (λ i. get_or-copies None c.args.trips i));
    }

pub index_mut-requires : goal.index_mut-requires
index_mut-requires c =
    let below =
    subst (λ (kind : ArcKind). IsBelow c.args.trips kind) c.in-Trip.is
    (c.requires.of_trips c.loop-k.k _ c.loop-k-test.true) in
    omega (arith, below, c.loop-k.invariant.trips, c.loop-k.index.ok.0)

pub loop-k-preserved : goal.loop-k-preserved
loop-k-preserved c =
    elim c.match-kind.branch [
      | in-Trip w ↦
          let below =
          subst (λ (kind : ArcKind). IsBelow c.args.trips kind) w.in-Trip.is
          (c.requires.of_trips c.loop-k.k _ c.loop-k-test.true) in
          let items = ap (λ (v : Vec (Option ℕ) Global). v.items) w.index-is in
          let room : w.in-Trip.i.0 < length c.loop-k.index.items = omega (arith, below, c.loop-k.invariant.trips) in
          let kind = get_or_default c.args.kinds.now c.loop-k.k Return _ c.loop-k-test.true ∙ w.in-Trip.is in
          record {
            trips = ap length items ∙ length-set c.loop-k.index.items w.in-Trip.i.0 (Some c.loop-k.k)
                ∙ c.loop-k.invariant.trips;
            index = rw items
                (index_trip c.args.kinds.now c.loop-k.k w.in-Trip.i.0 c.loop-k.index.items c.loop-k.invariant.index
                c.loop-k-test.true room kind);
          }
      | in_default w ↦
          let same = ap (λ (v : Vec (Option ℕ) Global). v.items) w.index-is in
          record {
            trips = ap length same ∙ c.loop-k.invariant.trips;
            index = rw same (index_other c.args.kinds.now c.loop-k.k c.loop-k.index.items c.loop-k.invariant.index
                (λ i is. w.in_default.not-Trip (record { 0 = i })
                (get_or_default c.args.kinds.now c.loop-k.k _ Return c.loop-k-test.true ∙ is)));
          }
    ]

pub returns : goal.returns
returns c =
    let all : c.loop-k.k ≡ length c.args.kinds.now = omega (arith, c.loop-k.auto.k-end, c.loop-k-test.false) in
    index_all c.args.kinds.now c.loop-k.index.items
    (subst (λ (n : ℕ). IsIndexUpto c.args.kinds.now n c.loop-k.index.items) all c.loop-k.invariant.index)
