use Rattle.std.proofs.Common.{◌≡◌, ◌∙◌, sym, arith, subst, MatchOption, Option, Some, None, drop}
use Rattle.std.proofs.lemmas.List.{get_or_default}
use Rattle.vs_tree.specs.declared.entry.Entry.{Entry}
use Rattle.vs_tree.specs.Free.{Entries, IsEmpty, IsFirst, entry_at}
use Rattle.vs_tree.proofs.Matches.{root-is_first, root-none}
use Rattle.vs_tree.proofs.free_leaves.FreeLeaves.next.Goals as goal

pub returns : goal.returns
returns c =
    let i = c.self.inside in
    let root : entry_at i.entries.items 1 ≡ c.index.result.now =
    sym (c.index.ensures ∙ get_or_default i.entries.items 1 c.index.result.now None
    (omega (arith, c.self.invariant.some, c.self.invariant.size))) in
    subst (λ (e : Entries). MatchOption c.index.result.now (IsEmpty e) (IsFirst e)) c.self.view_is
    (by_root c.index.result.now root)
  where
    by_root : (entry : Option Entry) → entry_at c.self.inside.entries.items 1 ≡ entry
        → MatchOption entry (IsEmpty (drop c.self.inside.count c.self.inside.entries.items))
        (IsFirst (drop c.self.inside.count c.self.inside.entries.items))
    by_root None root = root-none c.self.inside.entries.items c.self.inside.count c.self.invariant root
    by_root (Some entry) root =
        root-is_first c.self.inside.entries.items c.self.inside.count entry c.self.invariant root
