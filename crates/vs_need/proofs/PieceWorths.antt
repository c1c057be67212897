-- What the walks of a lawful net are worth is what the moves are worth that there are.
use Rattle.std.proofs.Common.{◌≡◌, ℕ, ◌<◌, true, false, Bool, cond, eqb, List, [], ◌∷◌, ◌++◌, length, Option, Some, None, refl, sym, ap, ◌∙◌, subst, arith, ℤ, pos, neg_ℤ, ◌-ℤ◌, ◌≤ℤ◌}
use Rattle.std.specs.Prelude.{option_map}
use Rattle.std.proofs.lemmas.Int.{ints}
use Rattle.std.proofs.lemmas.Bool.{eq-eqb, eqb-true}
use Rattle.std.proofs.lemmas.Option.{none-some, same_Some}
use Rattle.vs_types.specs.declared.numbers.TripNo.{TripNo}
use Rattle.vs_layer.specs.Graph.{Graph, arc_of}
use Rattle.vs_layer.specs.Walks.{IsLeastCost, path_cost}
use Rattle.vs_instance.specs.Problem.{Problem}
use Rattle.vs_instance.specs.Pieces.{out_piece, link_piece, in_piece}
use Rattle.vs_instance.specs.HoldingTable.{price_of, scaled}
use Rattle.vs_match.specs.declared.arc_kind.ArcKind.{ArcKind}
use Rattle.vs_match.specs.declared.arc_kind.ArcKind.TheVariants.{Trip, Waiting, Deadhead, PullOut, PullIn, RestIn, RestWait, RestOut, Return}
use Rattle.vs_match.specs.Events.{MayRun}
use Rattle.vs_match.specs.NetArcs.{at_scale}
use Rattle.vs_match.specs.LayerGraph.{LayerGraph, IsArcOfTrip, kind_of}
use Rattle.vs_match.specs.LawfulNets.{IsLawful}
use Rattle.vs_match.specs.WalkLaw.{IsMove, IsWalk, IsWayIn, IsWayOut}
use Rattle.vs_prices.specs.declared.table.Table.{Table}
use Rattle.vs_prices.specs.Table.{into_price, prices_in}
use Rattle.vs_need.specs.declared.aim.Aim.TheVariants as aim
use Rattle.vs_need.specs.Greatest.{IsGreatest}
use Rattle.vs_need.specs.Gains.{IsGain, fare, prize_of}
use Rattle.vs_need.specs.Needs.{IsNextWorth, IsPieceWorth}
use Rattle.vs_need.proofs.Ends.{cost-snoc}
use Rattle.vs_need.proofs.Greatest.{greatest-part}
use Rattle.vs_need.proofs.Joined.{fare-sum}
use Rattle.vs_need.proofs.LawfulPasses.{arc_of_trip}

scaled-fare : (ray : Bool) (c : ℕ) → scaled ray c ≡ fare ray (at_scale c)
scaled-fare true c = refl
scaled-fare false c = refl

fare-≤ : (ray : Bool) (a b : ℤ) → a ≤ℤ b → fare ray a ≤ℤ fare ray b
fare-≤ true a b less = omega (arith, ints)
fare-≤ false a b less = less

-- where the numbers are what such lists of arcs cost, counted negative, the greatest is what the cheapest costs
least-greatest : (g : Graph) (Such : List ℕ → Type 0) (ray : Bool) (o : Option ℕ) (A : ℤ → Type 0) (found : Option ℤ)
    → IsLeastCost g Such (option_map at_scale o) → IsGreatest A found
    → ((ks : List ℕ) → Such ks → A (neg_ℤ (fare ray (path_cost g ks))))
    → ((x : ℤ) → A x → (ks : List ℕ) × Such ks × (x ≡ neg_ℤ (fare ray (path_cost g ks))))
    → IsGreatest (IsPieceWorth ray o) found
least-greatest g Such ray None A found least is there back =
    greatest-part A (IsPieceWorth ray None) found is (λ x h. absurd (none-some h.piece h.is_piece))
    (λ x a. let b = back x a in absurd (least b.0 b.1))
least-greatest g Such ray (Some c) A found least is there back =
    greatest-part A (IsPieceWorth ray (Some c)) found is
    (λ x h.
    let same : c ≡ h.piece = same_Some c h.piece h.is_piece in
    let cost : fare ray (path_cost g least.0.0) ≡ scaled ray h.piece =
    ap (fare ray) least.0.2 ∙ sym (scaled-fare ray c) ∙ ap (scaled ray) same in
    let worth : neg_ℤ (fare ray (path_cost g least.0.0)) ≡ x = ap neg_ℤ cost ∙ sym h.worth in
    subst A worth (there least.0.0 least.0.1))
    (λ x a.
    let b : (ks : List ℕ) × Such ks × (x ≡ neg_ℤ (fare ray (path_cost g ks))) = back x a in
    let less = fare-≤ ray (at_scale c) (path_cost g b.0) (least.1 b.0 b.1) in
    let cost = scaled-fare ray c in
    let worth = b.2 in
    (neg_ℤ (scaled ray c), record { piece = c; is_piece = refl; worth = refl }, omega (arith, ints, less, cost, worth)))

module _ (into : List ℤ) (ray : Bool) (cost prize : ℤ) where
  next_prize : (kind : ArcKind) → prize_of into ray aim.Next kind cost ≡ Some prize
      → (j : TripNo) × (kind ≡ Trip j) × (price_of into j.0 ≡ prize)
  next_prize (Trip j) is = (j, refl, same_Some _ prize is)
  next_prize Waiting is = absurd (none-some prize is)
  next_prize Deadhead is = absurd (none-some prize is)
  next_prize PullOut is = absurd (none-some prize is)
  next_prize PullIn is = absurd (none-some prize is)
  next_prize RestIn is = absurd (none-some prize is)
  next_prize RestWait is = absurd (none-some prize is)
  next_prize RestOut is = absurd (none-some prize is)
  next_prize Return is = absurd (none-some prize is)

  pull_in_prize : (kind : ArcKind) → prize_of into ray aim.PullIn kind cost ≡ Some prize
      → (kind ≡ PullIn) × (neg_ℤ (fare ray cost) ≡ prize)
  pull_in_prize PullIn is = (refl, same_Some _ prize is)
  pull_in_prize (Trip j) is = absurd (none-some prize is)
  pull_in_prize Waiting is = absurd (none-some prize is)
  pull_in_prize Deadhead is = absurd (none-some prize is)
  pull_in_prize RestIn is = absurd (none-some prize is)
  pull_in_prize RestWait is = absurd (none-some prize is)
  pull_in_prize RestOut is = absurd (none-some prize is)
  pull_in_prize PullOut is = absurd (none-some prize is)
  pull_in_prize Return is = absurd (none-some prize is)

  pull_out_prize : (kind : ArcKind) → prize_of into ray aim.PullOut kind cost ≡ Some prize
      → (kind ≡ PullOut) × (neg_ℤ (fare ray cost) ≡ prize)
  pull_out_prize PullOut is = (refl, same_Some _ prize is)
  pull_out_prize (Trip j) is = absurd (none-some prize is)
  pull_out_prize Waiting is = absurd (none-some prize is)
  pull_out_prize Deadhead is = absurd (none-some prize is)
  pull_out_prize PullIn is = absurd (none-some prize is)
  pull_out_prize RestIn is = absurd (none-some prize is)
  pull_out_prize RestWait is = absurd (none-some prize is)
  pull_out_prize RestOut is = absurd (none-some prize is)
  pull_out_prize Return is = absurd (none-some prize is)

  same_trip : (b : Bool) (i j : ℕ) → eqb i j ≡ b → cond b (Some (pos 0)) None ≡ Some prize
      → (i ≡ j) × (pos 0 ≡ prize)
  same_trip true i j e is = (eqb-true i j e, same_Some (pos 0) prize is)
  same_trip false i j e is = absurd (none-some prize is)

  after_prize : (i : TripNo) (kind : ArcKind) → prize_of into ray (aim.After i) kind cost ≡ Some prize
      → (kind ≡ Trip i) × (pos 0 ≡ prize)
  after_prize i (Trip j) is =
      let s = same_trip (eqb i.0 j.0) i.0 j.0 refl is in
      (ap (λ (m : ℕ). Trip (record { 0 = m })) (sym s.0), s.1)
  after_prize i Waiting is = absurd (none-some prize is)
  after_prize i Deadhead is = absurd (none-some prize is)
  after_prize i PullOut is = absurd (none-some prize is)
  after_prize i PullIn is = absurd (none-some prize is)
  after_prize i RestIn is = absurd (none-some prize is)
  after_prize i RestWait is = absurd (none-some prize is)
  after_prize i RestOut is = absurd (none-some prize is)
  after_prize i Return is = absurd (none-some prize is)

module _ (p : Problem) (l : ℕ) (n : LayerGraph) (lawful : IsLawful p l n) (into : List ℤ) (ray : Bool) where
  abbrev g : Graph
  g = n.graph

  -- an arc of the net that is of this kind is the trip's
  of_trip : (k : ℕ) (i : TripNo) → k < length n.graph.arcs → kind_of n k ≡ Trip i → IsArcOfTrip n.kinds i.0 k
  of_trip k i within is = (omega (arith, within, lawful.labelled.each_arc), is)

  pub pull_ins : (i k : ℕ) (found : Option ℤ) → IsArcOfTrip n.kinds i k
      → IsGreatest (IsGain n into ray aim.PullIn (arc_of n.graph k).to) found
      → IsGreatest (IsPieceWorth ray (in_piece p l i)) found
  pull_ins i k found is greatest =
      let a = arc_of_trip p l n lawful i k is in
      let u = (arc_of n.graph k).to in
      least-greatest n.graph (IsWayIn n u) ray (in_piece p l i) (IsGain n into ray aim.PullIn u) found
      (lawful.walks.ins i u a.may_run a.to) greatest
      (λ ks way. record {
        arc = way.last;
        prize = neg_ℤ (fare ray (arc_of n.graph way.last).cost);
        walk = way.walk;
        of_net = way.of_net;
        is_prize =
            ap (λ (kind : ArcKind). prize_of into ray aim.PullIn kind (arc_of n.graph way.last).cost) way.pull_in;
        joins = way.is_walk;
        worth =
            let sum = ap (λ (w : List ℕ). fare ray (path_cost n.graph w)) way.is
            ∙ ap (fare ray) (cost-snoc n.graph (λ j. IsMove (kind_of n j)) way.walk way.last)
            ∙ fare-sum ray (arc_of n.graph way.last).cost (path_cost n.graph way.walk) in
            omega (arith, ints, sum);
      })
      (λ x gain.
      let prize = pull_in_prize into ray (arc_of n.graph gain.arc).cost gain.prize (kind_of n gain.arc)
      gain.is_prize in
      let sum = ap (fare ray) (cost-snoc n.graph (λ j. IsMove (kind_of n j)) gain.walk gain.arc)
      ∙ fare-sum ray (arc_of n.graph gain.arc).cost (path_cost n.graph gain.walk) in
      let worth = gain.worth in
      let is_prize = prize.1 in (
        gain.walk ++ gain.arc ∷ [],
        record {
          walk = gain.walk;
          last = gain.arc;
          is = refl;
          of_net = gain.of_net;
          pull_in = prize.0;
          is_walk = gain.joins;
        },
        omega (arith, ints, sum, worth, is_prize),
      ))

  way_out : (v : ℕ) (ks : List ℕ) → IsWayOut n v ks
      → IsGain n into ray aim.PullOut v (neg_ℤ (fare ray (path_cost n.graph ks)))
  way_out v [] way = absurd way
  way_out v (k ∷ walk) way = record {
    arc = k;
    prize = neg_ℤ (fare ray (arc_of n.graph k).cost);
    walk = walk;
    of_net = way.0;
    is_prize = ap (λ (kind : ArcKind). prize_of into ray aim.PullOut kind (arc_of n.graph k).cost) way.1;
    joins = way.2;
    worth = (let sum = fare-sum ray (arc_of n.graph k).cost (path_cost n.graph walk) in omega (arith, ints, sum));
  }

  pub pull_outs : (j k : ℕ) (found : Option ℤ) → IsArcOfTrip n.kinds j k
      → IsGreatest (IsGain n into ray aim.PullOut (arc_of n.graph k).from) found
      → IsGreatest (IsPieceWorth ray (out_piece p l j)) found
  pull_outs j k found is greatest =
      let a = arc_of_trip p l n lawful j k is in
      let v = (arc_of n.graph k).from in
      least-greatest n.graph (IsWayOut n v) ray (out_piece p l j) (IsGain n into ray aim.PullOut v) found
      (lawful.walks.outs j v a.may_run a.from) greatest (way_out v)
      (λ x gain.
      let prize = pull_out_prize into ray (arc_of n.graph gain.arc).cost gain.prize (kind_of n gain.arc)
      gain.is_prize in
      let sum = fare-sum ray (arc_of n.graph gain.arc).cost (path_cost n.graph gain.walk) in
      let worth = gain.worth in
      let is_prize = prize.1 in
      (gain.arc ∷ gain.walk, (gain.of_net, prize.0, gain.joins), omega (arith, ints, sum, worth, is_prize)))

  -- the links from a trip that the layer may run, by the walks from its arrival
  pub links : (i : TripNo) (j k : ℕ) (found : Option ℤ) → MayRun p l i.0 → IsArcOfTrip n.kinds j k
      → IsGreatest (IsGain n into ray (aim.After i) (arc_of n.graph k).from) found
      → IsGreatest (IsPieceWorth ray (link_piece p l i.0 j)) found
  links i j k found may is greatest =
      let b = lawful.each_trip i.0 may in
      let at = arc_of_trip p l n lawful i.0 b.0 b.1 in
      let a = arc_of_trip p l n lawful j k is in
      let u = (arc_of n.graph b.0).to in
      let v = (arc_of n.graph k).from in
      least-greatest n.graph (λ ks. IsWalk n u ks v) ray (link_piece p l i.0 j)
      (IsGain n into ray (aim.After i) v) found
      (lawful.walks.links i.0 j u v may a.may_run at.to a.from) greatest
      (λ ks walk. record {
        arc = b.0;
        prize = pos 0;
        walk = ks;
        of_net = omega (arith, b.1.0, lawful.labelled.each_arc);
        is_prize =
            ap (λ (kind : ArcKind). prize_of into ray (aim.After i) kind (arc_of n.graph b.0).cost) b.1.1
            ∙ ap (λ (same : Bool). cond same (Some (pos 0)) None) (eq-eqb i.0 i.0 refl);
        joins = walk;
        worth = omega (arith, ints);
      })
      (λ x gain.
      let prize = after_prize into ray (arc_of n.graph gain.arc).cost gain.prize i (kind_of n gain.arc) gain.is_prize in
      let same : gain.arc ≡ b.0 = lawful.one_arc i.0 gain.arc b.0 (of_trip gain.arc i gain.of_net prize.0) b.1 in
      let P : ℕ → Type 0 = λ (m : ℕ). IsWalk n (arc_of n.graph m).to gain.walk v in
      let worth = gain.worth in
      let is_prize = prize.1 in
      (gain.walk, subst P same gain.joins, omega (arith, ints, worth, is_prize)))

module _ (p : Problem) (l : ℕ) (n : LayerGraph) (lawful : IsLawful p l n) (table : Table) where
  abbrev prices : List ℤ
  prices = prices_in p l table.into.items

  -- a connection and a walk that is one
  linked : (i u : ℕ) (x : ℤ) (j k : ℕ) (walk : List ℕ) (o : Option ℕ) → MayRun p l j → link_piece p l i j ≡ o
      → IsLeastCost n.graph (λ ks. IsWalk n u ks k) (option_map at_scale o) → IsWalk n u walk k
      → x ≡ into_price p table l j -ℤ fare table.ray (path_cost n.graph walk)
      → (y : ℤ) × IsNextWorth p table l i y × (x ≤ℤ y)
  linked i u x j k walk None may is least is_walk worth = absurd (least walk is_walk)
  linked i u x j k walk (Some c) may is least is_walk worth =
      let less = fare-≤ table.ray (at_scale c) (path_cost n.graph walk) (least.1 walk is_walk) in
      let cost = scaled-fare table.ray c in (
        into_price p table l j -ℤ scaled table.ray c,
        record {
          next = j;
          piece = c;
          may_run = may;
          is_link = is;
          worth = refl;
        },
        omega (arith, ints, less, cost, worth),
      )

  pub nexts : (i k : ℕ) (found : Option ℤ) → IsArcOfTrip n.kinds i k
      → IsGreatest (IsGain n prices table.ray aim.Next (arc_of n.graph k).to) found
      → IsGreatest (IsNextWorth p table l i) found
  nexts i k found is greatest =
      let a = arc_of_trip p l n lawful i k is in
      let u = (arc_of n.graph k).to in
      greatest-part (IsGain n prices table.ray aim.Next u) (IsNextWorth p table l i) found greatest
      (λ x h.
      let b = lawful.each_trip h.next h.may_run in
      let at = arc_of_trip p l n lawful h.next b.0 b.1 in
      let law = lawful.walks.links i h.next u (arc_of n.graph b.0).from a.may_run h.may_run a.to at.from in
      let P : Option ℕ → Type 0 =
      λ o. IsLeastCost n.graph (λ ks. IsWalk n u ks (arc_of n.graph b.0).from) (option_map at_scale o) in
      let least = subst P h.is_link law in
      let cost = ap (fare table.ray) least.0.2 ∙ sym (scaled-fare table.ray h.piece) in
      let worth = h.worth in
      record {
        arc = b.0;
        prize = into_price p table l h.next;
        walk = least.0.0;
        of_net = omega (arith, b.1.0, lawful.labelled.each_arc);
        is_prize = ap (λ (kind : ArcKind). prize_of prices table.ray aim.Next kind (arc_of n.graph b.0).cost) b.1.1;
        joins = least.0.1;
        worth = omega (arith, ints, cost, worth);
      })
      (λ x gain.
      let prize = next_prize prices table.ray (arc_of n.graph gain.arc).cost gain.prize (kind_of n gain.arc)
      gain.is_prize in
      let at = arc_of_trip p l n lawful prize.0.0 gain.arc
      (of_trip p l n lawful prices table.ray gain.arc prize.0 gain.of_net prize.1) in
      let worth = gain.worth in
      let is_prize = prize.2 in
      linked i u x prize.0.0 (arc_of n.graph gain.arc).from gain.walk (link_piece p l i prize.0.0) at.may_run refl
      (lawful.walks.links i prize.0.0 u (arc_of n.graph gain.arc).from a.may_run at.may_run a.to at.from) gain.joins
      (omega (arith, ints, worth, is_prize)))
