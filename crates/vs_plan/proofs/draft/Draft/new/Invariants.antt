use Rattle.std.proofs.Common.{◌≡◌, ℕ, ◌<◌, length, slice_index}
use Rattle.vs_instance.specs.Ways.{layer_of}
use Rattle.vs_plan.proofs.draft.Draft.new.Given as goal

abbrev pub invariant-loop-l : goal.invariant-loop-l
invariant-loop-l l = record {
  size : length l.left.items ≡ l.l;
  fleets : (k : ℕ) → k < l.l → slice_index l.left.items k ≡ (layer_of l.instance k).fleet;
}
