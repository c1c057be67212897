-- The records of a made text are plain: nothing in them is quoted, and none begins with `result`.
use Rattle.std.proofs.Common.{◌≡◌, ℕ, ◌+◌, ◌*◌, ◌/◌, ◌%◌, ◌<◌, ◌≤◌, Bool, false, cond, List, [], ◌∷◌, get_or, map, codes, decimal, refl, ap, ◌∙◌, arith}
use Rattle.std.specs.Prelude.{All, filter, flat_map, not, ◌==◌}
use Rattle.std.specs.List.{range_with_len}
use Rattle.std.proofs.lemmas.List.Elements.{All-append, All-cons, All-filter, All-head, All-map, All-nil, All-tail}
use Rattle.vs_types.specs.LayerSet.{members}
use Rattle.vs_reader.specs.Kinds.{before_result, is_result}
use Rattle.vs_reader.specs.Rows.{Field, IsPlain, IsPlainRow, Row}
use Rattle.vs_rows.specs.Fields.{numbered, time_field}
use Rattle.vs_rows.proofs.CallerLemmas.{plain_decimal, all_below, IsPlainField, plain_from, plain_word, plain_row}
use Rattle.vs_make.specs.declared.sequence.Draws.{Draws}
use Rattle.vs_make.specs.Generator.{deadhead_row, deadheads_from, depot_of, distance, drawn_row, draws, end_of, layer_name, layer_names, layer_row, number_at, stop_name, stop_row, trip_row}
use Rattle.vs_make.proofs.Fields.{IsCapital, lettered}
use Rattle.vs_make.proofs.Draws.{IsDrawn, all_drawn, depot_below, few_driven, few_metres, few_minutes, few_steps}
use Rattle.vs_make.proofs.LayersNamed.{members_below}

plain_lettered : (letter k : ℕ) → IsCapital letter → k < 10000 → IsPlainField (lettered letter k)
plain_lettered letter k capital few =
    All-cons IsPlain letter (decimal (k + 1)) (plain_from letter (omega (arith, capital.0)))
    (plain_decimal (k + 1) (omega arith))

plain_time : (t : ℕ) → IsPlainField (time_field t)
plain_time t =
    let tens : ℕ = 48 + t / 60 / 10 in
    let ones : ℕ = 48 + t / 60 % 10 in
    let fourth : ℕ = 48 + t % 60 / 10 in
    let fifth : ℕ = 48 + t % 60 % 10 in
    All-cons IsPlain tens (ones ∷ 58 ∷ fourth ∷ fifth ∷ []) (plain_from tens (omega arith))
    (All-cons IsPlain ones (58 ∷ fourth ∷ fifth ∷ []) (plain_from ones (omega arith))
    (All-cons IsPlain 58 (fourth ∷ fifth ∷ []) (plain_from 58 (omega arith))
    (All-cons IsPlain fourth (fifth ∷ []) (plain_from fourth (omega arith))
    (All-cons IsPlain fifth [] (plain_from fifth (omega arith)) (All-nil IsPlain)))))

pub record IsMadeRow (row : Row) : Type 0 where
  pub plain : IsPlainRow row
  pub no_result : is_result row ≡ false

stop_plain : (k : ℕ) → k < 12 → IsPlainField (stop_name k)
stop_plain k few = plain_lettered 83 k (omega arith, omega arith) (omega arith)

made_stop : (k : ℕ) → k < 12 → IsMadeRow (stop_row k)
made_stop k few = record {
  plain = plain_row (codes "stop") (stop_name k ∷ []) (omega arith) refl
      (All-cons IsPlainField (stop_name k) [] (stop_plain k few) (All-nil IsPlainField));
  no_result = refl;
}

made_link : (k s : ℕ) → k < 12 → s < 12 → IsMadeRow (deadhead_row k s)
made_link k s from to =
    let few = few_steps k s from to in
    let minutes : Field = decimal (6 * distance k s) in
    let metres : Field = decimal (2500 * distance k s) in
    record {
      plain = plain_row (codes "deadhead") (stop_name k ∷ stop_name s ∷ minutes ∷ metres ∷ []) (omega arith) refl
          (All-cons IsPlainField (stop_name k) (stop_name s ∷ minutes ∷ metres ∷ []) (stop_plain k from)
          (All-cons IsPlainField (stop_name s) (minutes ∷ metres ∷ []) (stop_plain s to)
          (All-cons IsPlainField minutes (metres ∷ [])
          (plain_decimal (6 * distance k s) (omega (arith, few_minutes (distance k s) few)))
          (All-cons IsPlainField metres []
          (plain_decimal (2500 * distance k s) (omega (arith, few_metres (distance k s) few)))
          (All-nil IsPlainField)))));
      no_result = refl;
    }

made_layer_row : (n l : ℕ) → n ≤ 10000 → l < 4 → IsMadeRow (layer_row n l)
made_layer_row n l few below =
    let fleet : Field = decimal (n / 4 + 8) in
    let fixed : Field = decimal (50000 + 2000 * l) in
    let depot : Field = stop_name (depot_of l) in
    record {
      plain = plain_row (codes "layer")
          (layer_name l ∷ depot ∷ fleet ∷ fixed ∷ codes "10" ∷ codes "1" ∷ []) (omega arith) refl
          (All-cons IsPlainField (layer_name l) (depot ∷ fleet ∷ fixed ∷ codes "10" ∷ codes "1" ∷ [])
          (plain_lettered 76 l (omega arith, omega arith) (omega arith))
          (All-cons IsPlainField depot (fleet ∷ fixed ∷ codes "10" ∷ codes "1" ∷ [])
          (stop_plain (depot_of l) (depot_below l))
          (All-cons IsPlainField fleet (fixed ∷ codes "10" ∷ codes "1" ∷ []) (plain_decimal (n / 4 + 8) (omega arith))
          (All-cons IsPlainField fixed (codes "10" ∷ codes "1" ∷ [])
          (plain_decimal (50000 + 2000 * l) (omega arith))
          (All-cons IsPlainField (codes "10") (codes "1" ∷ []) (plain_word (codes "10") refl)
          (All-cons IsPlainField (codes "1") [] (plain_word (codes "1") refl) (All-nil IsPlainField)))))));
      no_result = refl;
    }

made_trip_row : (i : ℕ) (d : Draws) → i < 10000 → IsDrawn d → IsMadeRow (trip_row i d)
made_trip_row i d few is =
    let steps = few_steps d.from d.to is.from is.to in
    let name : Field = numbered (codes "T") i in
    let from : Field = stop_name d.from in
    let start : Field = time_field d.start in
    let to : Field = stop_name d.to in
    let end : Field = time_field (end_of d) in
    let metres : Field = decimal (3000 * distance d.from d.to) in
    let layers : List Field = layer_names d.layers in
    let below = members_below d.layers is.some_layer is.four_layers in
    record {
      plain = plain_row (codes "trip") (name ∷ from ∷ start ∷ to ∷ end ∷ metres ∷ layers) (omega arith) refl
          (All-cons IsPlainField name (from ∷ start ∷ to ∷ end ∷ metres ∷ layers)
          (plain_lettered 84 i (omega arith, omega arith) (omega arith))
          (All-cons IsPlainField from (start ∷ to ∷ end ∷ metres ∷ layers) (stop_plain d.from is.from)
          (All-cons IsPlainField start (to ∷ end ∷ metres ∷ layers) (plain_time d.start)
          (All-cons IsPlainField to (end ∷ metres ∷ layers) (stop_plain d.to is.to)
          (All-cons IsPlainField end (metres ∷ layers) (plain_time (end_of d))
          (All-cons IsPlainField metres layers
          (plain_decimal (3000 * distance d.from d.to) (omega (arith, few_driven (distance d.from d.to) steps)))
          (All-map IsPlainField layer_name (members d.layers) (λ k x within.
          plain_lettered 76 (get_or (members d.layers) k x) (omega arith, omega arith)
          (omega (arith, below k x within))))))))));
      no_result = refl;
    }

-- the rows, kind by kind
pub made_stops : (ks : List ℕ) → All (λ k. k < 12) ks → All IsMadeRow (map stop_row ks)
made_stops ks below = All-map IsMadeRow stop_row ks (λ i x within. made_stop (get_or ks i x) (below i x within))

links_from : (k : ℕ) → k < 12 → All IsMadeRow (deadheads_from k)
links_from k from =
    let others : List ℕ = filter (λ s. not (s == k)) (range_with_len 0 12) in
    let below = All-filter (λ s. not (s == k)) (λ s. s < 12) (range_with_len 0 12) (all_below 12) in
    All-map IsMadeRow (deadhead_row k) others (λ i x within. made_link k (get_or others i x) from (below i x within))

pub made_links : (ks : List ℕ) → All (λ k. k < 12) ks → All IsMadeRow (flat_map deadheads_from ks)
made_links [] below = All-nil IsMadeRow
made_links (k ∷ ks) below =
    All-append IsMadeRow (deadheads_from k) (flat_map deadheads_from ks)
    (links_from k (All-head (λ j. j < 12) k ks below)) (made_links ks (All-tail (λ j. j < 12) k ks below))

pub made_layer_rows : (n : ℕ) (ls : List ℕ) → n ≤ 10000 → All (λ l. l < 4) ls → All IsMadeRow (map (layer_row n) ls)
made_layer_rows n ls few below =
    All-map IsMadeRow (layer_row n) ls (λ i x within. made_layer_row n (get_or ls i x) few (below i x within))

pub made_trips : (n : ℕ) → n ≤ 10000 → All IsMadeRow (map (drawn_row n) (range_with_len 0 n))
made_trips n few =
    All-map IsMadeRow (drawn_row n) (range_with_len 0 n) (λ k x within.
    let i : ℕ = get_or (range_with_len 0 n) k x in
    let below : i < n = all_below n k x within in
    made_trip_row i (draws (number_at (n + 1) (5 * i))) (omega arith) (all_drawn (number_at (n + 1) (5 * i))))

-- none of these begins what follows an instance
pub none_is_result : (rows : List Row) → All IsMadeRow rows → before_result rows ≡ rows
none_is_result [] are = refl
none_is_result (row ∷ rows) are =
    let here = All-head IsMadeRow row rows are in
    let rest = none_is_result rows (All-tail IsMadeRow row rows are) in
    ap (λ (b : Bool). cond b [] (row ∷ before_result rows)) here.no_result ∙ ap (λ (rs : List Row). row ∷ rs) rest
