use Rattle.std.proofs.Common.{◌≡◌, ◌≢◌, ℕ, length, arith, sym, ap, subst}
use Rattle.vs_instance.specs.Problem.{Problem}
use Rattle.vs_prices.specs.declared.table.Table.{Table}
use Rattle.vs_circ.specs.declared.circ.LayerPrices.{LayerPrices}
use Rattle.vs_node.specs.LayersDone.{AreSized}
use Rattle.vs_node.proofs.plans.Done.{all_layers-fit}
use Rattle.vs_node.proofs.tables.RayTables.{IsRayOfFirst, ray_holds, ray_of_more, ray_of_none, ray_worth}
use Rattle.vs_node.proofs.tables.TablePrices.{of_first-none}
use Rattle.vs_node.proofs.ray_table.ray_table.Goals as goal
use Rattle.vs_node.proofs.ray_table.ray_table.Goals.{then-l-short, else-l-short}

pub loop-l-init : goal.loop-l-init
loop-l-init c =
    let p = c.args.instance.now in
    let table = c.in_ok-table.ensures in
    record {
      zeros = c.in_ok-zeros.ensures.zeros;
      sized = c.in_ok-zeros.ensures.sized;
      table =
          ray_of_none p c.args.short.0 c.args.prices.now c.in_ok-zeros.zeros c.in_ok-table.table
          (of_first-none p c.in_ok-table.table table.into table.from table.fleet) table.ray;
    }

pub loop-l-preserved : goal.loop-l-preserved
loop-l-preserved c =
    let p = c.args.instance.now in
    let prices = c.args.prices.now in
    let zeros = c.loop-l.zeros in
    let given = c.if-l-short.of_layer.now in
    let own : AreSized p prices = record {
      into_size = c.requires.holding.into_size;
      from_size = c.requires.holding.from_size;
      into = c.requires.holding.into;
      from = c.requires.holding.from;
      fleet = c.requires.holding.fleet;
    } in
    let sized : AreSized p given = elim c.if-l-short.branch [
      | then-l-short w ↦ subst (AreSized p) (sym (ap (λ b. b.now) w.of_layer-is)) own
      | else-l-short w ↦ subst (AreSized p) (sym (ap (λ b. b.now) w.of_layer-is)) c.loop-l.invariant.sized
    ] in
    let here : c.loop-l.l ≡ c.args.short.0 → given ≡ prices = λ is. elim c.if-l-short.branch [
      | then-l-short w ↦ ap (λ b. b.now) w.of_layer-is
      | else-l-short w ↦ absurd (w.if-l-short.false is)
    ] in
    let elsewhere : c.loop-l.l ≢ c.args.short.0 → given ≡ zeros = λ other. elim c.if-l-short.branch [
      | then-l-short w ↦ absurd (other w.if-l-short.true)
      | else-l-short w ↦ ap (λ b. b.now) w.of_layer-is
    ] in
    record {
      zeros = c.loop-l.invariant.zeros;
      sized = c.loop-l.invariant.sized;
      table =
          ray_of_more p c.args.short.0 prices zeros c.loop-l.l c.loop-l.table c.push_prices.new.table given
          c.loop-l.invariant.table sized c.in_ok-push_prices.ensures here elsewhere;
    }

-- at the end of all layers the ray is whole
whole : (p : Problem) (short n : ℕ) (prices zeros : LayerPrices) (table : Table) → n ≡ length p.layers
    → IsRayOfFirst p short prices zeros n table → IsRayOfFirst p short prices zeros (length p.layers) table
whole p short n prices zeros table is ray = subst (λ (m : ℕ). IsRayOfFirst p short prices zeros m table) is ray

pub returns-clause-fits : goal.returns-clause-fits
returns-clause-fits c =
    all_layers-fit c.args.instance.now c.loop-l.table
    (whole c.args.instance.now c.args.short.0 c.loop-l.l c.args.prices.now c.loop-l.zeros
    c.loop-l.table (omega (arith, c.layers-l-end.ensures.count, c.loop-l-test.false, c.loop-l.auto.l-end))
    c.loop-l.invariant.table).first

pub returns-clause-holds : goal.returns-clause-holds
returns-clause-holds c =
    ray_holds c.args.instance.now c.args.short.0 c.args.prices.now c.loop-l.zeros c.loop-l.table
    c.loop-l.invariant.zeros (whole c.args.instance.now c.args.short.0 c.loop-l.l c.args.prices.now c.loop-l.zeros
    c.loop-l.table (omega (arith, c.layers-l-end.ensures.count, c.loop-l-test.false, c.loop-l.auto.l-end))
    c.loop-l.invariant.table) c.requires.holding.holds

pub returns-clause-worth : goal.returns-clause-worth
returns-clause-worth c =
    ray_worth c.args.instance.now c.args.short.0 c.args.prices.now c.loop-l.zeros c.loop-l.table
    c.loop-l.invariant.zeros (whole c.args.instance.now c.args.short.0 c.loop-l.l c.args.prices.now c.loop-l.zeros
    c.loop-l.table (omega (arith, c.layers-l-end.ensures.count, c.loop-l-test.false, c.loop-l.auto.l-end))
    c.loop-l.invariant.table) c.requires.layer c.layers-l-end.ensures.instance
