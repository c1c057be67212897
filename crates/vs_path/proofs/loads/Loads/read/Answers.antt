use Rattle.std.proofs.Common.{◌≡◌, ℕ, ◌+◌, ◌<◌, ◌∙◌, sym, ap, subst, arith, inl, inr, true, get_or}
use Rattle.std.proofs.lemmas.Bool.{cases_eq}
use Rattle.vs_path.specs.declared.loads.Loads.{Loads}
use Rattle.vs_path.specs.Loads.{AreByNode, IsListed, lists_in}
use Rattle.vs_path.proofs.labelling.Listing.{by_node-empty}
use Rattle.vs_path.proofs.loads.Loads.read.Goals as goal
use Rattle.vs_path.proofs.loads.Loads.read.Goals.{then-units-k-gt0, else-units-k-gt0}

pub loop-k-init : goal.loop-k-init
loop-k-init c = record {
  by_node = by_node-empty c.args.net.now (lists_in c.clear.new.self) (c.clear.ensures.nodes ∙ c.requires.nodes)
      c.clear.ensures.empty;
  all = λ complete j below carries. absurd (omega (arith, below));
}

pub loop-k-preserved : goal.loop-k-preserved
loop-k-preserved c =
    let g = c.args.net.now in
    let k = c.loop-k.k in
    let inv = c.loop-k.invariant in
    let P : Loads → Type 0 = λ l. record {
      by_node : AreByNode g (lists_in l);
      all : l.complete ≡ true → (j : ℕ) → j < k + 1 → 0 < get_or c.args.units.now j 0 → IsListed g (lists_in l) j;
    } in
    elim c.if-units-k-gt0.branch [
      | then-units-k-gt0 w ↦
          subst P (sym w.self-is)
          (record {
            by_node = w.add.ensures.by_node;
            all = λ complete j below carries.
                elim (cases_eq j k) [
                  | inl same ↦
                      let Q : ℕ → Type 0 = λ i. IsListed g (lists_in w.add.new.self) i in
                      subst Q (sym same) (w.add.ensures.listed complete)
                  | inr ne ↦
                      w.add.ensures.kept j
                      (inv.all (w.add.ensures.complete complete) j (omega (arith, below, ne)) carries)
                ];
          })
      | else-units-k-gt0 w ↦
          subst P (sym w.self-is)
          (record {
            by_node = inv.by_node;
            all = λ complete j below carries.
                elim (cases_eq j k) [
                  | inl same ↦
                      let at = ap (λ (i : ℕ). get_or c.args.units.now i 0) same in
                      absurd (omega (arith, at, carries, w.if-units-k-gt0.false))
                  | inr ne ↦ inv.all complete j (omega (arith, below, ne)) carries
                ];
          })
    ]
