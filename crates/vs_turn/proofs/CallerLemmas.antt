-- For the crates above: what a holder adds, for callers of `release`, how all tickets are split, and what a seat that
-- was joined has not made.
use Rattle.std.proofs.Common.{◌≡◌, ℕ, true, List, [], ◌∷◌, ◌++◌, length, ap, ◌∙◌, append-nil}
use Rattle.std.proofs.Math.Seq.{drop-append_seam, drop-length}
use Rattle.vs_turn.specs.Calls.{maker, has_ticket, GoOn, numbered, new_calls}
pub use Rattle.vs_turn.proofs.TicketLists.{length-tickets_from, without_highest-all, only_highest-all}
pub use Rattle.vs_turn.proofs.JoinedCalls.{next_apart, next_merged, none_of_one, none_unseen}

-- nothing was added
pub adds_none : (tickets : List ℕ) (before after : List (List ℕ)) → before ≡ after → GoOn tickets before after
adds_none tickets before after e = record { new = []; begins = append-nil before ∙ e; calls = tt }

-- one call was added
pub adds_one : (tickets : List ℕ) (before after : List (List ℕ)) (entry : List ℕ) → before ++ entry ∷ [] ≡ after
    → has_ticket tickets (maker entry) ≡ true → GoOn tickets before after
adds_one tickets before after entry e mine = record { new = entry ∷ []; begins = e; calls = (mine, tt) }

-- where nothing was added there is no new call
pub new_calls-none : (entries : List (List ℕ)) → new_calls entries entries ≡ []
new_calls-none entries = ap (numbered (length entries)) (drop-length entries)

-- where one entry was added it is the new call
pub new_calls-one : (before : List (List ℕ)) (entry : List ℕ)
    → new_calls before (before ++ entry ∷ []) ≡ (length before, entry) ∷ []
new_calls-one before entry = ap (numbered (length before)) (drop-append_seam before (entry ∷ []))
