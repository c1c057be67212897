use Rattle.std.proofs.Common.{◌≡◌, All, vec_len}
use Rattle.vs_cuts.specs.Numbers.{AreProducts}
use Rattle.vs_cuts.proofs.products.Products.new.Given as goal

abbrev pub invariant-loop : goal.invariant-loop
invariant-loop l = record {
  each : vec_len l.rows ≡ l.counter;
  entries : All (λ row. vec_len row ≡ l.places) l.rows.items;
  within : All (λ row. AreProducts l.most row.items) l.rows.items;
}
