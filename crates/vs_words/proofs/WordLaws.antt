-- Words ask for one command at most, or are bad at one place.
use Rattle.std.proofs.Common.{◌≡◌, ℕ, ◌+◌, ◌-◌, ◌<◌, ◌≤◌, List, [], ◌∷◌, ◌++◌, length, take, drop, sum, refl, ap, sym, ◌∙◌, subst, arith, append_assoc}
use Rattle.std.specs.Str.Parse.{digits_value}
use Rattle.std.proofs.lemmas.List.{append-nil, take-append-drop, take-take}
use Rattle.vs_words.specs.declared.command.Command.{Command}
use Rattle.vs_words.specs.declared.command.Command.TheVariants as commands
use Rattle.vs_words.specs.declared.command.Plain.TheVariants.{Check, Network, Blocks, Make, Peak, PeakCheck, Replay}
use Rattle.vs_words.specs.declared.command.Search.TheVariants.{Solve, Trial, Resume, Trace}
use Rattle.vs_words.specs.declared.words.Counting.{Counting}
use Rattle.vs_words.specs.declared.words.Counting.TheVariants as counting
use Rattle.vs_words.specs.Words.{Word, AreAccepted, AreBadAt, AreFurther, AskFor, Begin, IsTripCount, command_name}
use Rattle.vs_words.proofs.OptionWords.{one_effort}

-- one word writes one count
one_count : (kind : Counting) (words : List Word) (m n : ℕ) → IsTripCount kind m words → IsTripCount kind n words
    → m ≡ n
one_count kind words m n f g =
    let count : f.0 ≡ g.0 = let h : words ≡ f.0 ∷ [] = f.1 in let k : words ≡ g.0 ∷ [] = g.1 in cc in
    f.2.value ∙ ap (digits_value 10) count ∙ sym g.2.value

-- one list of further words is one command's
one_further : (c d : Command) (words : List Word) → command_name c ≡ command_name d → AreFurther c words
    → AreFurther d words → c ≡ d
one_further (commands.Plain Check) (commands.Plain Check) words e f g = refl
one_further (commands.Plain Network) (commands.Plain Network) words e f g = refl
one_further (commands.Plain Blocks) (commands.Plain Blocks) words e f g = refl
one_further (commands.Plain (Make m)) (commands.Plain (Make n)) words e f g =
    ap (λ k. commands.Plain (Make k)) (one_count counting.Make words m n f g)
one_further (commands.Plain Peak) (commands.Plain Peak) words e f g = refl
one_further (commands.Plain PeakCheck) (commands.Plain PeakCheck) words e f g = refl
one_further (commands.Plain Replay) (commands.Plain Replay) words e f g = refl
one_further (commands.Search (Solve effort)) (commands.Search (Solve also)) words e f g =
    ap (λ k. commands.Search (Solve k)) (one_effort words effort also f g)
one_further (commands.Search (Resume effort)) (commands.Search (Resume also)) words e f g =
    ap (λ k. commands.Search (Resume k)) (one_effort words effort also f g)
one_further (commands.Search (Trace effort)) (commands.Search (Trace also)) words e f g =
    ap (λ k. commands.Search (Trace k)) (one_effort words effort also f g)
one_further (commands.Search (Trial m)) (commands.Search (Trial n)) words e f g =
    ap (λ k. commands.Search (Trial k)) (one_count counting.Trial words m n f g)
-- no two names are one: each pair of commands is a case
one_further (commands.Plain Check) (commands.Search (Trial n)) words e f g = absurd (omega (arith, ap sum e))
one_further (commands.Plain Network) (commands.Search (Trial n)) words e f g = absurd (omega (arith, ap sum e))
one_further (commands.Plain Blocks) (commands.Search (Trial n)) words e f g = absurd (omega (arith, ap sum e))
one_further (commands.Plain (Make m)) (commands.Search (Trial n)) words e f g = absurd (omega (arith, ap sum e))
one_further (commands.Plain Peak) (commands.Search (Trial n)) words e f g = absurd (omega (arith, ap sum e))
one_further (commands.Plain PeakCheck) (commands.Search (Trial n)) words e f g = absurd (omega (arith, ap sum e))
one_further (commands.Plain Replay) (commands.Search (Trial n)) words e f g = absurd (omega (arith, ap sum e))
one_further (commands.Search (Solve effort)) (commands.Plain Check) words e f g = absurd (omega (arith, ap sum e))
one_further (commands.Search (Trial m)) (commands.Plain Check) words e f g = absurd (omega (arith, ap sum e))
one_further (commands.Search (Resume effort)) (commands.Plain Check) words e f g = absurd (omega (arith, ap sum e))
one_further (commands.Search (Trace effort)) (commands.Plain Check) words e f g = absurd (omega (arith, ap sum e))
one_further _ _ words e f g = absurd (omega (arith, ap sum e))

pub one_command : (words : List Word) (c d : Command) → AskFor words c → AskFor words d → c ≡ d
one_command words c d a b =
    let both : command_name c ∷ a.further ≡ command_name d ∷ b.further = sym a.words_are ∙ b.words_are in
    let names : command_name c ≡ command_name d = cc in
    let further : b.further ≡ a.further = cc in
    one_further c d a.further names a.are_further (subst (AreFurther d) further b.are_further)

-- what begins words that begin a command's, begins them too
begins_shorter : (words : List Word) (n : ℕ) → Begin words → Begin (take n words)
begins_shorter words n begin = (
  drop n words ++ begin.0,
  subst AreAccepted (sym (sym (append_assoc (take n words) (drop n words) begin.0)
      ∙ ap (λ (w : List Word). w ++ begin.0) (take-append-drop n words))) begin.1,
)

begins_itself : (words : List Word) → AreAccepted words → Begin words
begins_itself words accepted = ([], subst AreAccepted (sym (append-nil words)) accepted)

-- words that ask for a command are bad nowhere
pub never_both : (words : List Word) (c : Command) (n : ℕ) → AskFor words c → ¬ (AreBadAt words n)
never_both words c n a b =
    let none_within : n ≤ length words → ⊥ =
    λ within. b.bad within (begins_shorter words n (begins_itself words (c, a))) in
    let none_behind : n ≡ length words + 1 → ⊥ = λ behind. b.missing behind (c, a) in
    let last : n ≤ length words + 1 = b.within in
    omega arith

not_before : (words : List Word) (m n : ℕ) → AreBadAt words m → AreBadAt words n → ¬ (m < n)
not_before words m n a b less =
    let within : m ≤ length words = let w = b.within in omega arith in
    a.bad within (subst Begin (take-take m (n - 1) words (omega arith)) (begins_shorter (take
    (n - 1) words) m b.before))

pub one_place : (words : List Word) (m n : ℕ) → AreBadAt words m → AreBadAt words n → m ≡ n
one_place words m n a b =
    let f = not_before words m n a b in let g = not_before words n m b a in omega arith
