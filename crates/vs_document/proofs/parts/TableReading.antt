-- Tables that are read one after another.
use Rattle.std.proofs.Common.{◌≡◌, ℕ, suc, ◌+◌, ◌≤◌, List, [], ◌∷◌, ◌++◌, length, sym, ap, ◌∙◌, subst, arith, All, flat_map, append-nil, codes}
use Rattle.std.specs.List.{enumerate_from}
use Rattle.std.proofs.lemmas.Grind.{flat_map-append}
use Rattle.std.proofs.lemmas.List.{length_push}
use Rattle.std.proofs.lemmas.List.Elements.{All-push, All-nil}
use Rattle.vs_instance.specs.Problem.{Problem}
use Rattle.vs_prices.specs.Table.{Fits}
use Rattle.vs_prices.specs.declared.table.Table.{Table}
use Rattle.vs_reader.specs.Rows.{row_of}
use Rattle.vs_reader.specs.declared.input.Input.{Input}
use Rattle.vs_rows.specs.declared.limits.TheConstants.{MAX_NUMBER}
use Rattle.vs_rows.specs.DocumentText.{IsBlankElsewhere}
use Rattle.vs_rows.specs.DocumentRows.{DocumentRow, table_rows, tables_rows}
use Rattle.vs_rows.specs.TableReading.{ReadsTable}
use Rattle.vs_document.specs.Places.{InTable, InTree}
use Rattle.vs_document.specs.DocumentRefusals.{documents}
use Rattle.vs_document.specs.Reading.{ReadsTables}
use Rattle.vs_rows.specs.RowReading.{ReadsTo}
use Rattle.vs_rows.specs.RowForms.{IsOfKind}
use Rattle.vs_document.proofs.rows.AcceptedRows.{leads_table}
use Rattle.vs_document.proofs.rows.ReadThrough.{reads_through}
use Rattle.vs_rows.proofs.CallerLemmas.{lead_on, read_on, reads_none}
use Rattle.vs_document.proofs.parts.SamePlaces.{tables_end}

enumerate-push : {X : Type 0} (n : ℕ) (xs : List X) (x : X)
    → enumerate_from n (xs ++ x ∷ []) ≡ enumerate_from n xs ++ (n + length xs, x) ∷ []
enumerate-push {X} n [] x = ap (λ (k : ℕ). (k, x) ∷ []) (omega arith)
enumerate-push {X} n (y ∷ xs) x =
    let place : n + 1 + length xs ≡ n + suc (length xs) = omega arith in
    ap (λ (rest : List (ℕ × X)). (n, y) ∷ rest)
    (enumerate-push (n + 1) xs x ∙ ap (λ (k : ℕ). enumerate_from (n + 1) xs ++ (k, x) ∷ []) place)

-- the rows of one table more
pub tables_rows-push : (p : Problem) (tables : List Table) (table : Table)
    → tables_rows p (tables ++ table ∷ []) ≡ tables_rows p tables ++ table_rows p (length tables + 1, table)
tables_rows-push p tables table =
    let number : 1 + length tables ≡ length tables + 1 = omega arith in
    ap (flat_map (table_rows p)) (enumerate-push 1 tables table)
    ∙ flat_map-append (table_rows p) (enumerate_from 1 tables) ((1 + length tables, table) ∷ [])
    ∙ ap (λ (rows : List DocumentRow). tables_rows p tables
    ++ rows) (append-nil (table_rows p (1 + length tables, table)))
    ∙ ap (λ (k : ℕ). tables_rows p tables ++ table_rows p (k, table)) number

-- the tables that are read so far
pub record TablesSoFar (input : Input) (at row : ℕ) (tables : List Table) : Type 0 where
  pub fits : All (Fits input.instance) tables
  pub blank : All (IsBlankElsewhere input.instance) tables
  pub number : length tables ≤ MAX_NUMBER
  pub reads : ReadsTo documents input at (InTable 0 []) (tables_rows input.instance tables) row
      (InTable (length tables) [])

module _ (input : Input) (at : ℕ) where
  pub tables_none : at ≤ length input.rest → TablesSoFar input at at []
  tables_none within = record {
    fits = All-nil (Fits input.instance);
    blank = All-nil (IsBlankElsewhere input.instance);
    number = omega arith;
    reads = reads_none documents input at (InTable 0 []) within;
  }

  pub tables_more : (row next n : ℕ) (tables : List Table) (table : Table) → TablesSoFar input at row tables
      → n ≡ length tables → ReadsTable input row n next table → TablesSoFar input at next (tables ++ table ∷ [])
  tables_more row next n tables table s is read =
      let R : ℕ → Type 0 = λ k. ReadsTable input row k next table in
      let r = subst R is read in
      let size : length tables + 1 ≡ length (tables ++ table ∷ []) = omega (arith, length_push tables table) in
      let N : ℕ → Type 0 = λ k. ReadsTo documents input at (InTable 0 [])
      (tables_rows input.instance (tables ++ table ∷ [])) next (InTable k []) in
      let P : List DocumentRow → Type 0 = λ said. ReadsTo documents input at (InTable 0 []) said next
      (InTable (length tables + 1) []) in
      record {
        fits = All-push (Fits input.instance) tables table s.fits r.fits;
        blank = All-push (IsBlankElsewhere input.instance) tables table s.blank r.blank;
        number = omega (arith, r.number, length_push tables table);
        reads = subst N size
            (subst P (sym (tables_rows-push input.instance tables table))
            (read_on documents input at row next (InTable 0 []) (InTable (length tables) [])
            (InTable (length tables + 1) []) (tables_rows input.instance tables) (table_rows input.instance
            (length tables + 1, table)) s.reads
            (reads_through input (table_rows input.instance (length tables + 1, table)) (InTable (length tables) [])
            (InTable (length tables + 1) []) row next (leads_table input.instance (length tables) table r.fits)
            r.stand)));
      }

  pub tables_done : (row : ℕ) (tables : List Table) → TablesSoFar input at row tables
      → ¬ (IsOfKind (codes "table") 3 (row_of input.rest row)) → ReadsTables input at row tables
  tables_done row tables s none = record {
    fits = s.fits;
    blank = s.blank;
    number = s.number;
    reads = record {
      say = s.reads.say;
      lead = lead_on documents input at row row (InTable 0 []) (InTable (length tables) []) (InTree
          (length tables) 1) s.reads.lead
          (tables_end input row (length tables) none);
    };
  }
