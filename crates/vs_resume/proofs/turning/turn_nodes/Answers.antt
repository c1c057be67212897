use Rattle.std.proofs.Common.{◌≡◌, ℕ, ◌*◌, ◌/◌, ◌≤◌, length, arith}
use Rattle.std.proofs.Math.Nat.{mul-div-le}
use Rattle.std.proofs.lemmas.Nat.{le-div, mul-le}
use Rattle.vs_resume.specs.declared.deepen.TheConstants.{MAX_PART_ENTRIES}
use Rattle.vs_resume.proofs.turning.turn_nodes.Goals as goal

pub returns-clause-some : goal.returns-clause-some
returns-clause-some c =
    let some = le-div 1 MAX_PART_ENTRIES c.max-entries.result (omega arith) (omega (arith, c.entries_of.ensures.few)) in
    omega (arith, some)

-- as many tables as a share allows have few enough entries
few_entries : (places entries nodes : ℕ) → places ≤ entries → nodes ≤ MAX_PART_ENTRIES / entries
    → places * nodes ≤ MAX_PART_ENTRIES
few_entries places entries nodes fewer share =
    let up = mul-le places nodes entries (MAX_PART_ENTRIES / entries) fewer share in
    omega (arith, up, mul-div-le MAX_PART_ENTRIES entries)

pub returns-clause-room : goal.returns-clause-room
returns-clause-room c =
    few_entries (length c.args.instance.now.trips * length c.args.instance.now.layers) c.max-entries.result c.min.result
    (omega (arith, c.entries_of.ensures.entries)) (omega arith)
