-- The rows as which a document is written are plain: nothing in them has to be quoted.
use Rattle.std.proofs.Common.{ℕ, List, [], ◌∷◌, map, codes, decimal, refl, arith, All, Option, Some, None, IfSome, ℤ}
use Rattle.std.specs.Fmt.{signed_decimal}
use Rattle.std.proofs.lemmas.Int.{ints}
use Rattle.std.proofs.lemmas.List.Elements.{All-cons, All-head, All-map, All-nil, All-tail}
use Rattle.vs_types.specs.LayerSet.{members}
use Rattle.vs_types.specs.declared.numbers.TripNo.{TripNo}
use Rattle.vs_instance.specs.Instance.{IsInstance}
use Rattle.vs_instance.specs.Problem.{Problem}
use Rattle.vs_reader.specs.NameRules.{AreNames}
use Rattle.vs_reader.specs.Names.{HaveCounts, NameLists, name_of}
use Rattle.vs_reader.specs.Rows.{IsPlainRow}
use Rattle.vs_prices.specs.declared.claim.Claim.{Claim}
use Rattle.vs_prices.specs.declared.claim.Claim.TheVariants.{Optimal, Infeasible, StillOpen}
use Rattle.vs_rows.specs.declared.document.Document.{Document}
use Rattle.vs_rows.specs.declared.limits.TheConstants.{MAX_BOUND}
use Rattle.vs_rows.specs.DocumentRows.{BlockRow, BoundRow, ClaimRow, CostRow, DocumentRow, EndRow, FleetRow, HasForm, IsWithin, LeafRow, NodesRow, PriceRow, SplitRow, TableRow, claim_field, document_rows, kind_field, number_field, rows_of_document, written_row, written_rows}
use Rattle.vs_rows.specs.DocumentText.{HasText}
use Rattle.vs_rows.proofs.written.WrittenForms.{document_forms}
use Rattle.vs_rows.proofs.written.PlainFields.{IsPlainField, plain_word, plain_decimal, plain_signed, plain_name_of, plain_row, one_field, plain_cost, plain_price, plain_kind}
use Rattle.vs_rows.proofs.Lists.{every}

plain_claim : (claim : Claim) → IsPlainField (claim_field claim)
plain_claim Optimal = plain_word (codes "optimal") refl
plain_claim Infeasible = plain_word (codes "infeasible") refl
plain_claim StillOpen = plain_word (codes "open") refl

plain_bound : (bound : Option ℤ) → IfSome bound (IsWithin MAX_BOUND) → IsPlainField (number_field bound)
plain_bound (Some n) within =
    let low = within.0 in let high = within.1 in plain_signed n (omega (arith, ints), omega (arith, ints))
plain_bound None within = plain_word (codes "none") refl

module _ (names : NameLists) (layers : AreNames names.layers) (trips : AreNames names.trips) where
  layer : (l : ℕ) → IsPlainField (name_of names.layers l)
  layer l = plain_name_of names.layers l layers.each

  trip : (i : ℕ) → IsPlainField (name_of names.trips i)
  trip i = plain_name_of names.trips i trips.each

  layer_names : (ls : List ℕ) → All IsPlainField (map (name_of names.layers) ls)
  layer_names ls =
      All-map IsPlainField (name_of names.layers) ls (every (λ l. IsPlainField (name_of names.layers l)) ls layer)

  trip_names : (ts : List TripNo) → All IsPlainField (map (λ t. name_of names.trips t.0) ts)
  trip_names ts = All-map IsPlainField (λ t. name_of names.trips t.0) ts
      (every (λ t. IsPlainField (name_of names.trips t.0)) ts (λ t. trip t.0))

  -- what has the form of a row is written plainly
  plain_written : (said : DocumentRow) → HasForm names said → IsPlainRow (written_row names said)
  plain_written (ClaimRow claim) has =
      plain_row (codes "result") (codes "1" ∷ claim_field claim ∷ []) (omega arith) refl
      (All-cons IsPlainField (codes "1") (claim_field claim ∷ []) (plain_word (codes "1") refl)
      (one_field (claim_field claim) (plain_claim claim)))
  plain_written (CostRow cost) has =
      plain_row (codes "cost") (number_field cost ∷ []) (omega arith) refl
      (one_field (number_field cost) (plain_cost cost has))
  plain_written (BoundRow bound) has =
      plain_row (codes "bound") (number_field bound ∷ []) (omega arith) refl
      (one_field (number_field bound) (plain_bound bound has))
  plain_written (NodesRow n) has =
      plain_row (codes "nodes") (decimal n ∷ []) (omega arith) refl
      (one_field (decimal n) (plain_decimal n (omega (arith, has))))
  plain_written (BlockRow b) has =
      plain_row (codes "block") (name_of names.layers b.0.0 ∷ map (λ t. name_of names.trips t.0) b.1) (omega arith) refl
      (All-cons IsPlainField (name_of names.layers b.0.0) (map (λ t. name_of names.trips t.0) b.1) (layer b.0.0)
      (trip_names b.1))
  plain_written (TableRow n ray) has =
      plain_row (codes "table") (decimal n ∷ kind_field ray ∷ []) (omega arith) refl
      (All-cons IsPlainField (decimal n) (kind_field ray ∷ []) (plain_decimal n (omega (arith, has)))
      (one_field (kind_field ray) (plain_kind ray)))
  plain_written (FleetRow l price) has =
      plain_row (codes "fleet") (name_of names.layers l ∷ signed_decimal price ∷ []) (omega arith) refl
      (All-cons IsPlainField (name_of names.layers l) (signed_decimal price ∷ []) (layer l)
      (one_field (signed_decimal price) (plain_price price has.1)))
  plain_written (PriceRow l i into from) has =
      plain_row (codes "price")
      (name_of names.layers l ∷ name_of names.trips i ∷ signed_decimal into ∷ signed_decimal from ∷ [])
      (omega arith) refl
      (All-cons IsPlainField (name_of names.layers l)
      (name_of names.trips i ∷ signed_decimal into ∷ signed_decimal from ∷ []) (layer l)
      (All-cons IsPlainField (name_of names.trips i) (signed_decimal into ∷ signed_decimal from ∷ []) (trip i)
      (All-cons IsPlainField (signed_decimal into) (signed_decimal from ∷ []) (plain_price into has.2)
      (one_field (signed_decimal from) (plain_price from has.3)))))
  plain_written (SplitRow t left) has =
      plain_row (codes "split") (name_of names.trips t.0 ∷ map (name_of names.layers) (members left)) (omega arith) refl
      (All-cons IsPlainField (name_of names.trips t.0) (map (name_of names.layers) (members left)) (trip t.0)
      (layer_names (members left)))
  plain_written (LeafRow n) has =
      plain_row (codes "leaf") (decimal n ∷ []) (omega arith) refl
      (one_field (decimal n) (plain_decimal n (omega (arith, has))))
  plain_written EndRow has = plain_row (codes "end") [] (omega arith) refl (All-nil IsPlainField)

  all_plain : (said : List DocumentRow) → All (HasForm names) said → All IsPlainRow (written_rows names said)
  all_plain [] forms = All-nil IsPlainRow
  all_plain (row ∷ said) forms =
      All-cons IsPlainRow (written_row names row) (written_rows names said)
      (plain_written row (All-head (HasForm names) row said forms))
      (all_plain said (All-tail (HasForm names) row said forms))

  -- those of a document that has a text
  pub plain_document : (p : Problem) (d : Document) → IsInstance p → HaveCounts p names → HasText p d
      → All IsPlainRow (document_rows p names d)
  plain_document p d instance counts text =
      all_plain (rows_of_document p d) (document_forms p names instance counts d text)
