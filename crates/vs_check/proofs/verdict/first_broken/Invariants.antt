use Rattle.std.proofs.Common.{◌≡◌, drop, length}
use Rattle.vs_instance.specs.Firsts.{first}
use Rattle.vs_instance.proofs.CallerLemmas.{first_from}
use Rattle.vs_need.specs.Nets.{AreNets}
use Rattle.vs_need.specs.Room.{HasRoom}
use Rattle.vs_check.specs.Flaws.{table_flaws, tables_flaws}
use Rattle.vs_check.proofs.verdict.first_broken.Given as goal

abbrev pub ghost-broken_for : goal.ghost-broken_for
ghost-broken_for a = a._instance.now

-- the tables from here on have the first flaw of all
abbrev pub invariant-loop-t : goal.invariant-loop-t
invariant-loop-t l = record {
  nets : AreNets l.instance l.nets.nets.now;
  room : HasRoom (length l.instance.trips) l.nets.nets.now l.scratch;
  so_far : first_from (table_flaws l.instance) l.t (drop l.t l.tables) ≡ first (tables_flaws l.instance l.tables);
}
