-- The nodes of points: each point has one, and they come in the points' order.
use Rattle.std.proofs.Common.{◌≡◌, ℕ, zero, suc, ◌+◌, ◌<◌, List, length, get_or, Some, refl, sym, ap, ◌∙◌, subst, inl, inr, arith, add-one}
use Rattle.std.specs.Prelude.{Contains, AllPairs}
use Rattle.std.proofs.lemmas.Bool.{cases_order}
use Rattle.std.proofs.lemmas.Option.{slice_get_within, get_or_from_slice_get, slice_get-get_or, none-some}
use Rattle.vs_match.specs.declared.event.Event.{Event}
use Rattle.vs_match.specs.declared.event.Point.{Point}
use Rattle.vs_match.specs.Events.{HasPoint, HasPlace, HasLine, IsBefore, point_of, line_point, stop_rank}
use Rattle.vs_match.specs.LawfulNets.{IsAtStop, IsOnLine}
use Rattle.vs_match.proofs.walks.ClosedWays.{some-same}

-- which of the points a node is
pub record IsPlaced (points : List Point) (v : ℕ) (x : Point) : Type 0 where
  pub k : ℕ
  pub node : v ≡ k + 1
  pub within : k < length points
  pub point : (d : Point) → get_or points k d ≡ x

pub placed : (points : List Point) (v : ℕ) (x : Point) → HasPoint points v x → IsPlaced points v x
placed points zero x has = absurd (none-some x has)
placed points (suc k) x has = record {
  k = k;
  node = sym (add-one k);
  within = slice_get_within points k x has;
  point = λ d. get_or_from_slice_get points k x d has;
}

pub place-at : (points : List Point) (k : ℕ) (x d : Point) → k < length points → get_or points k d ≡ x
    → HasPoint points (k + 1) x
place-at points k x d within is = rw add-one (slice_get-get_or points k d within ∙ ap (λ (y : Point). Some y) is)

-- a point has a node
pub has_node : (points : List Point) (x : Point) → Contains points x → (v : ℕ) × HasPoint points v x
has_node points x has = (has.0 + 1, place-at points has.0 x x has.1 has.2)

-- a node is one point, so one event or one minute of the depot line
pub same_point : (points : List Point) (v : ℕ) (a b : Point) → HasPoint points v a → HasPoint points v b → a ≡ b
same_point points v a b is is' = some-same a b (sym is ∙ is')

-- an event is known by its point
pub event_of_point : (a b : Event) → point_of a ≡ point_of b → a ≡ b
event_of_point a b same =
    let minute = ap (λ (x : Point). x.minute) same in
    let stop = some-same a.stop b.stop (ap (λ (x : Point). x.stop) same) in
    λ i. record { minute = minute i; stop = stop i }

pub same_event : (points : List Point) (v : ℕ) (a b : Event) → HasPlace points v a → HasPlace points v b → a ≡ b
same_event points v a b is is' = event_of_point a b (same_point points v (point_of a) (point_of b) is is')

pub same_line : (points : List Point) (v m n : ℕ) → HasLine points v m → HasLine points v n → m ≡ n
same_line points v m n is is' =
    ap (λ (x : Point). x.minute) (same_point points v (line_point m) (line_point n) is is')

pub at_stop_or_line : (points : List Point) (v : ℕ) (e : Event) (m : ℕ) → HasPlace points v e → HasLine points v m → ⊥
at_stop_or_line points v e m is is' =
    none-some e.stop (sym (ap (λ (x : Point). x.stop) (same_point points v (point_of e) (line_point m) is is')))

-- a node that stands for some point
abbrev pub IsBetween : List Point → ℕ → Type 0
IsBetween points v = (x : Point) × HasPoint points v x

pub between_at_stop : (points : List Point) (v : ℕ) → IsAtStop points v → IsBetween points v
between_at_stop points v (e, at) = (point_of e, at)

pub between_on_line : (points : List Point) (v : ℕ) → IsOnLine points v → IsBetween points v
between_on_line points v (m, at) = (line_point m, at)

pub not_before_itself : (a b : Point) → a ≡ b → IsBefore a b → ⊥
not_before_itself a b same (inl less) = omega (arith, ap (λ (x : Point). x.minute) same)
not_before_itself a b same (inr both) = omega (arith, both.1, ap (λ (x : Point). stop_rank x.stop) same)

pub not_both : (a b : Point) → IsBefore a b → IsBefore b a → ⊥
not_both a b (inl x) (inl y) = omega arith
not_both a b (inl x) (inr y) = omega (arith, y.0)
not_both a b (inr x) (inl y) = omega (arith, x.0)
not_both a b (inr x) (inr y) = omega (arith, x.1, y.1)

module _ (points : List Point) (ordered : AllPairs IsBefore points) where
  before_of : (j k : ℕ) (a b : Point) → j < k → k < length points → ((d : Point) → get_or points j d ≡ a)
      → ((d : Point) → get_or points k d ≡ b) → IsBefore a b
  before_of j k a b less within is is' =
      let P : Point → Type 0 = λ x. IsBefore x b in
      subst P (is a) (let Q : Point → Type 0 =
      λ y. IsBefore (get_or points j a) y in subst Q (is' a) (ordered j k a less within))

  -- points that come in order have nodes that do
  pub nodes_in_order : (u v : ℕ) (a b : Point) → HasPoint points u a → HasPoint points v b → IsBefore a b → u < v
  nodes_in_order u v a b at at' less =
      let x = placed points u a at in
      let y = placed points v b at' in
      elim (cases_order x.k y.k) [
        | inl same ↦
            absurd (not_before_itself a b (sym (x.point a) ∙ ap (λ (k : ℕ). get_or points k a) same ∙ y.point a) less)
        | inr more ↦ elim more [
          | inl up ↦ omega (arith, x.node, y.node, up)
          | inr down ↦ absurd (not_both a b less (before_of y.k x.k b a down x.within y.point x.point))
        ]
      ]

  -- nodes that come in order are points that do
  pub points_in_order : (u v : ℕ) (a b : Point) → HasPoint points u a → HasPoint points v b → u < v → IsBefore a b
  points_in_order u v a b at at' less =
      let x = placed points u a at in
      let y = placed points v b at' in
      before_of x.k y.k a b (omega (arith, x.node, y.node)) y.within x.point y.point

  -- a point has no other node
  pub same_node : (u v : ℕ) (x : Point) → HasPoint points u x → HasPoint points v x → u ≡ v
  same_node u v x at at' =
      elim (cases_order u v) [
        | inl same ↦ same
        | inr more ↦ elim more [
          | inl up ↦ absurd (not_before_itself x x refl (points_in_order u v x x at at' up))
          | inr down ↦ absurd (not_before_itself x x refl (points_in_order v u x x at' at down))
        ]
      ]
