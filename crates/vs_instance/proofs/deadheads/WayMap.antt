-- The row table and the map that it stands for.
use Rattle.std.proofs.Common.{◌≡◌, ℕ, zero, suc, ◌+◌, ◌-◌, ◌*◌, ◌/◌, ◌%◌, ◌<◌, ◌≤◌, Bool, cond, List, [], ◌∷◌, length, get_or, set, take, drop, replicate, refl, sym, ap, ◌∙◌, inl, inr, arith}
use Rattle.std.specs.FinMap as map
use Rattle.std.specs.declared.option.Option.{Option}
use Rattle.std.specs.declared.option.Option.TheVariants.{None, Some}
use Rattle.std.proofs.lemmas.Bool.{cases_eq, cases_lt}
use Rattle.std.proofs.lemmas.Nat.{div-mul-add, mod-mul-add, same_from_place, mod_below, mul-le, div-add-mod'}
use Rattle.std.proofs.lemmas.List.{get_or-set_same, get_or-set_other, get_or-take, get_or-drop, length-take, length-drop}
use Rattle.vs_instance.specs.declared.way.Way.{Way}
use Rattle.vs_instance.specs.Problem.{pair_cmp}
use Rattle.vs_instance.specs.deadheads.WayMap.{WayMap, map_from, way_map, row_of}
use Rattle.std.proofs.lemmas.List.FromFn.{fill_by_all, length-map-range_with_len, get_or-map-range_with_len}
use Rattle.vs_instance.proofs.deadheads.Pairs.{pair_cmp-total, pair_cmp-IsAntisymmetric, tied_same, tied_apart}

-- the pair is that of place p
abbrev IsPairAt : ℕ → ℕ → ℕ → ℕ → Type 0
IsPairAt a b n p = ◌≡◌ {A = ℕ × ℕ} (a, b) (p / n, p % n)

-- a pair that doesn't stand at place p isn't the pair of that place
other_place : (n p a b : ℕ) → 0 < n → (b < n → a * n + b ≡ p → ⊥) → IsPairAt a b n p → ⊥
other_place n p a b some other e =
    let row : a ≡ p / n = ap (λ (x : ℕ × ℕ). x.0) e in
    let column : b ≡ p % n = ap (λ (x : ℕ × ℕ). x.1) e in
    let within : b < n = omega (arith, mod_below p n some) in
    other within (ap (λ (x : ℕ). x * n + b) row ∙ ap (λ (x : ℕ). p / n * n + x) column ∙ div-add-mod' p n)

-- a pair whose place comes before, or that has no place, is not in the map
get-before : (n p a b : ℕ) (ps : List (Option Way)) → 0 < n → (b < n → a * n + b < p)
    → map.get (map_from n p ps) (a, b) ≡ None
get-before n p a b [] some before = map.get-empty pair_cmp (a, b)
get-before n p a b (None ∷ ps) some before = get-before n (p + 1) a b ps some (λ h. omega (arith, before h))
get-before n p a b (Some w ∷ ps) some before =
    let rest = get-before n (p + 1) a b ps some (λ h. omega (arith, before h)) in
    let apart = other_place n p a b some (λ within is. omega (arith, before within)) in
    map.get-insert pair_cmp-total (map_from n (p + 1) ps) (p / n, p % n) w (a, b)
    ∙ ap (λ (t : Bool). cond t (Some w) (map.get (map_from n (p + 1) ps) (a, b)))
    (tied_apart (a, b) (p / n, p % n) apart) ∙ rest

get-from : (n p a b k : ℕ) (ps : List (Option Way)) → b < n → a * n + b ≡ p + k
    → map.get (map_from n p ps) (a, b) ≡ get_or ps k None
get-from n p a b k [] within is = map.get-empty pair_cmp (a, b)
get-from n p a b zero (None ∷ ps) within is = get-before n (p + 1) a b ps (omega arith) (λ h. omega arith)
get-from n p a b zero (Some w ∷ ps) within is =
    let here : a * n + b ≡ p = omega arith in
    let row : a ≡ p / n = sym (div-mul-add a n b within) ∙ ap (λ (x : ℕ). x / n) here in
    let column : b ≡ p % n = sym (mod-mul-add a n b within) ∙ ap (λ (x : ℕ). x % n) here in
    map.get-insert pair_cmp-total (map_from n (p + 1) ps) (p / n, p % n) w (a, b)
    ∙ ap (λ (t : Bool). cond t (Some w) (map.get (map_from n (p + 1) ps) (a, b)))
    (tied_same (a, b) (p / n, p % n) (λ i. (row i, column i)))
get-from n p a b (suc k) (None ∷ ps) within is = get-from n (p + 1) a b k ps within (omega arith)
get-from n p a b (suc k) (Some w ∷ ps) within is =
    let apart = other_place n p a b (omega arith) (λ _ same. omega arith) in
    map.get-insert pair_cmp-total (map_from n (p + 1) ps) (p / n, p % n) w (a, b)
    ∙ ap (λ (t : Bool). cond t (Some w) (map.get (map_from n (p + 1) ps) (a, b)))
    (tied_apart (a, b) (p / n, p % n) apart)
    ∙ get-from n (p + 1) a b k ps within (omega arith)

-- what stands at the pair's place
pub get-way_map : (n a b : ℕ) (ps : List (Option Way)) → b < n
    → map.get (way_map n ps) (a, b) ≡ get_or ps (a * n + b) None
get-way_map n a b ps within = get-from n 0 a b (a * n + b) ps within (omega arith)

-- a pair that has no place isn't in the map
pub get-way_map-past : (n a b : ℕ) (ps : List (Option Way)) → 0 < n → n ≤ b → map.get (way_map n ps) (a, b) ≡ None
get-way_map-past n a b ps some past = get-before n 0 a b ps some (λ h. absurd (omega arith))

-- to write a place is to insert its pair
pub way_map-set : (n a b : ℕ) (ps : List (Option Way)) (w : Way) → b < n → a * n + b < length ps
    → way_map n (set ps (a * n + b) (Some w)) ≡ map.insert (way_map n ps) (a, b) w
way_map-set n a b ps w within inside =
    map.same_map pair_cmp-total pair_cmp-IsAntisymmetric _ _ (λ q.
    let inserted = map.get-insert pair_cmp-total (way_map n ps) (a, b) w q in
    elim (cases_lt q.1 n) [
      | inl column ↦
          let left = get-way_map n q.0 q.1 (set ps (a * n + b) (Some w)) column in
          elim (cases_eq (q.0 * n + q.1) (a * n + b)) [
            | inl same ↦
                let place = same_from_place q.0 q.1 a b n column within same in
                left ∙ ap (λ (x : ℕ). get_or (set ps (a * n + b) (Some w)) x None) same
                ∙ get_or-set_same ps (a * n + b) (Some w) None inside
                ∙ sym (inserted
                ∙ ap (λ (t : Bool). cond t (Some w) (map.get (way_map n ps) q))
                (tied_same q (a, b) (λ i. (place.0 i, place.1 i))))
            | inr other ↦
                let apart : q ≡ (a, b) → ⊥ = λ e. other (ap (λ (x : ℕ × ℕ). x.0 * n + x.1) e) in
                left ∙ get_or-set_other ps (a * n + b) (q.0 * n + q.1) (Some w) None other
                ∙ sym (inserted
                ∙ ap (λ (t : Bool). cond t (Some w) (map.get (way_map n ps) q)) (tied_apart q (a, b) apart)
                ∙ get-way_map n q.0 q.1 ps column)
          ]
      | inr past ↦
          let some : 0 < n = omega arith in
          let apart : q ≡ (a, b) → ⊥ = λ e. omega (arith, ap (λ (x : ℕ × ℕ). x.1) e) in
          get-way_map-past n q.0 q.1 (set ps (a * n + b) (Some w)) some past
          ∙ sym (inserted ∙ ap (λ (t : Bool). cond t (Some w) (map.get (way_map n ps) q)) (tied_apart q (a, b) apart)
          ∙ get-way_map-past n q.0 q.1 ps some past)
    ])

map_from-none : (n p k : ℕ) → map_from n p (replicate k None) ≡ map.empty
map_from-none n p zero = refl
map_from-none n p (suc k) = map_from-none n (p + 1) k

-- a table of empty places is the empty map
pub way_map-none : (n k : ℕ) → way_map n (replicate k None) ≡ map.empty
way_map-none n k = map_from-none n 0 k

-- the places of a stop's row
pub row_of-way_map : (n k : ℕ) (ps : List (Option Way)) → length ps ≡ n * n → k < n
    → take (k * n + n - k * n) (drop (k * n) ps) ≡ row_of (record { stops = n; given = way_map n ps }) k
row_of-way_map n k ps all within =
    let fits : k * n + n ≤ length ps = omega (arith, all, mul-le (k + 1) n n n (omega arith) (omega arith)) in
    let size : k * n + n - k * n ≡ n = omega arith in
    rw size
    (fill_by_all (λ s. map.get (way_map n ps) (k, s)) (take n (drop (k * n) ps)) n None
    (omega (arith, length-take n (drop (k * n) ps), length-drop (k * n) ps))
    (λ s inside. get_or-take n (drop (k * n) ps) s None inside ∙ get_or-drop (k * n) ps s None
    ∙ sym (get-way_map n k s ps inside)))

pub length-row_of : (ways : WayMap) (k : ℕ) → length (row_of ways k) ≡ ways.stops
length-row_of ways k = length-map-range_with_len (λ s. map.get ways.given (k, s)) 0 ways.stops

-- what stands in a stop's row
pub get_or-row_of : (ways : WayMap) (k s : ℕ) (d : Option Way) → s < ways.stops
    → get_or (row_of ways k) s d ≡ map.get ways.given (k, s)
get_or-row_of ways k s d within =
    get_or-map-range_with_len (λ t. map.get ways.given (k, t)) 0 ways.stops s s d within (omega arith)
