-- Words that ask for commands, word by word.
use Rattle.std.proofs.Common.{Bool, true, String, string_bytes, codes, ◌≡◌, ℕ, ◌<◌, ◌≤◌, List, [], ◌∷◌, ◌++◌, length, get_or, sum, refl, ap, sym, ◌∙◌, subst, arith}
use Rattle.std.specs.Char.{IsAsciiDigit}
use Rattle.std.specs.Str.{bytes_eq}
use Rattle.std.specs.declared.alloc.Global.{Global}
use Rattle.std.proofs.lemmas.Slice.Eq.{bytes_eq-Decides}
use Rattle.std.proofs.lemmas.List.{length-map, get_or-map}
use Rattle.std.proofs.lemmas.List.Elements.{All-nil, All-cons}
use Rattle.vs_words.specs.declared.command.Command.{Command}
use Rattle.vs_words.specs.declared.command.Command.TheVariants as commands
use Rattle.vs_words.specs.declared.command.Effort.{Effort}
use Rattle.vs_words.specs.declared.command.Plain.{Plain}
use Rattle.vs_words.specs.declared.command.Plain.TheVariants.{Check, Network, Blocks, Make, Peak, PeakCheck, Replay}
use Rattle.vs_words.specs.declared.command.Search.TheVariants.{Solve, Trial, Resume, Trace}
use Rattle.vs_words.specs.declared.words.Counting.{Counting}
use Rattle.vs_words.specs.declared.words.Counting.TheVariants as counting
use Rattle.vs_words.specs.declared.words.Searching.{Searching}
use Rattle.vs_words.specs.declared.words.Searching.TheVariants as searching
use Rattle.vs_words.specs.Words.{Word, AreAccepted, AreBadAt, AreFurther, AreOptions, AskFor, Begin, IsAlone, IsTripCount, IsNumberUpTo, IsWordAt, command_name, counted, first_of_plain, search_name, searched, words_of, most_trips}

-- words that ask for a command have its name first
pub record BeginsAs (name : Word) (further : List Word) : Type 0 where
  pub command : Command
  pub name_is : command_name command ≡ name
  pub are_further : AreFurther command further

asked : (name : Word) (further : List Word) (command : Command) → AskFor (name ∷ further) command
    → BeginsAs name further
asked name further command a = record {
  command = command;
  name_is = let e = a.words_are in cc;
  are_further = let e : a.further ≡ further = let w = a.words_are in cc in subst (AreFurther command) e a.are_further;
}

pub accepted_as : (name : Word) (further : List Word) → AreAccepted (name ∷ further) → BeginsAs name further
accepted_as name further a = asked name further a.0 a.1

-- words that begin those of a command do so with some words behind them
pub begun_as : (name : Word) (further : List Word) → Begin (name ∷ further)
    → (more : List Word) × BeginsAs name (further ++ more)
begun_as name further b = (b.0, asked name (further ++ b.0) b.1.0 b.1.1)

pub asks : (name : Word) (further : List Word) (command : Command) → name ≡ command_name command
    → AreFurther command further → AskFor (name ∷ further) command
asks name further command is f =
    record { further = further; words_are = ap (λ (n : Word). n ∷ further) is; are_further = f }

-- the options of a search with some effort
abbrev pub SearchWords : List Word → Type 0
SearchWords words = (effort : Effort) × AreOptions effort words

-- which further words each command takes
solve_further : (d : Command) (words : List Word) → command_name d ≡ codes "solve" → AreFurther d words
    → SearchWords words
solve_further (commands.Search (Solve effort)) words e f = (effort, f)
solve_further (commands.Plain Check) words e f = absurd (omega (arith, ap sum e))
solve_further _ words e f = absurd (omega (arith, ap sum e))

resume_further : (d : Command) (words : List Word) → command_name d ≡ codes "resume" → AreFurther d words
    → SearchWords words
resume_further (commands.Search (Resume effort)) words e f = (effort, f)
resume_further (commands.Plain Check) words e f = absurd (omega (arith, ap sum e))
resume_further _ words e f = absurd (omega (arith, ap sum e))

trace_further : (d : Command) (words : List Word) → command_name d ≡ codes "trace" → AreFurther d words
    → SearchWords words
trace_further (commands.Search (Trace effort)) words e f = (effort, f)
trace_further (commands.Plain Check) words e f = absurd (omega (arith, ap sum e))
trace_further _ words e f = absurd (omega (arith, ap sum e))

search_further : (kind : Searching) (d : Command) (words : List Word) → command_name d ≡ search_name kind
    → AreFurther d words → SearchWords words
search_further searching.Solve d words e f = solve_further d words e f
search_further searching.Resume d words e f = resume_further d words e f
search_further searching.Trace d words e f = trace_further d words e f

searched_name : (kind : Searching) (effort : Effort) → search_name kind ≡ command_name (searched kind effort)
searched_name searching.Solve effort = refl
searched_name searching.Resume effort = refl
searched_name searching.Trace effort = refl

takes_options : (kind : Searching) (effort : Effort) (words : List Word) → AreOptions effort words
    → AreFurther (searched kind effort) words
takes_options searching.Solve effort words is = is
takes_options searching.Resume effort words is = is
takes_options searching.Trace effort words is = is

-- a count of trips
record Counts (kind : Counting) (words : List Word) : Type 0 where
  n : ℕ
  count : Word
  words_are : words ≡ count ∷ []
  number_is : IsNumberUpTo 6 (most_trips kind) count n

make_further : (d : Command) (words : List Word) → command_name d ≡ codes "make" → AreFurther d words
    → Counts counting.Make words
make_further (commands.Plain (Make n)) words e f = record { n = n; count = f.0; words_are = f.1; number_is = f.2 }
make_further (commands.Search (Trial n)) words e f = absurd (omega (arith, ap sum e))
make_further _ words e f = absurd (omega (arith, ap sum e))

trial_further : (d : Command) (words : List Word) → command_name d ≡ codes "trial" → AreFurther d words
    → Counts counting.Trial words
trial_further (commands.Search (Trial n)) words e f = record { n = n; count = f.0; words_are = f.1; number_is = f.2 }
trial_further (commands.Plain Check) words e f = absurd (omega (arith, ap sum e))
trial_further _ words e f = absurd (omega (arith, ap sum e))

count_further : (kind : Counting) (d : Command) (words : List Word) → command_name d ≡ command_name (counted kind 0)
    → AreFurther d words → Counts kind words
count_further counting.Make d words e f = make_further d words e f
count_further counting.Trial d words e f = trial_further d words e f

-- such a command has one name, and takes its count
counted_name : (kind : Counting) (n : ℕ) → command_name (counted kind 0) ≡ command_name (counted kind n)
counted_name counting.Make n = refl
counted_name counting.Trial n = refl

takes_count : (kind : Counting) (n : ℕ) (words : List Word) → IsTripCount kind n words
    → AreFurther (counted kind n) words
takes_count counting.Make n words is = is
takes_count counting.Trial n words is = is

-- a short number
pub one_up_to : (count most : ℕ) → 1 ≤ count → 1 ≤ most → IsNumberUpTo count most (codes "1") 1
one_up_to count most some few = record {
  digits = record {
    some = omega arith;
    few = omega (arith, some);
    digits = All-cons IsAsciiDigit 49 [] (omega arith, omega arith) (All-nil IsAsciiDigit);
  };
  value = refl;
  few = few;
}

pub accepted_search : (kind : Searching) (a : Word) (words : List Word) → a ≡ search_name kind → AreAccepted (a ∷ words)
    → SearchWords words
accepted_search kind a words is accepted =
    let b = accepted_as a words accepted in search_further kind b.command words (b.name_is ∙ is) b.are_further

-- what begins options, and what asks for a search by its options
pub asks_search : (kind : Searching) (a : Word) (effort : Effort) (words : List Word) → a ≡ search_name kind
    → AreOptions effort words → AskFor (a ∷ words) (searched kind effort)
asks_search kind a effort words is options =
    asks a words (searched kind effort) (is ∙ searched_name kind effort) (takes_options kind effort words options)

-- as many words as texts
pub length-words : (words : List (String Global)) → length (words_of words) ≡ length words
length-words words = rw length-map refl

-- `make` or `trial`, and a count
count_asks : (kind : Counting) (a b : Word) (n : ℕ) → a ≡ command_name (counted kind 0)
    → IsNumberUpTo 6 (most_trips kind) b n → AskFor (a ∷ b ∷ []) (counted kind n)
count_asks kind a b n is number =
    asks a (b ∷ []) (counted kind n) (is ∙ counted_name kind n) (takes_count kind n (b ∷ []) (b, refl, number))

-- each takes one trip at least
some_trips : (kind : Counting) → 1 ≤ most_trips kind
some_trips counting.Make = omega arith
some_trips counting.Trial = omega arith

count_begins : (kind : Counting) (a : Word) → a ≡ command_name (counted kind 0) → Begin (a ∷ [])
count_begins kind a is =
    let one = one_up_to 6 (most_trips kind) (omega arith) (some_trips kind) in
    (codes "1" ∷ [], (counted kind 1, count_asks kind a (codes "1") 1 is one))

-- it is missing, or is none
pub count_bad_second : (kind : Counting) (words : List Word) → IsWordAt words 0 (command_name (counted kind 0))
    → ((count : Word) → IsWordAt words 1 count → (n : ℕ) → ¬ (IsNumberUpTo 6 (most_trips kind) count n))
    → AreBadAt words 2
count_bad_second kind [] first none = absurd (let w = first.within in omega arith)
count_bad_second kind (a ∷ []) first none = record {
  some = omega arith;
  within = omega arith;
  before = count_begins kind a first.word_is;
  bad = λ within. absurd (omega arith);
  missing = λ end accepted.
      let b = accepted_as a [] accepted in
      let m = count_further kind b.command [] (b.name_is ∙ first.word_is) b.are_further in
      omega (arith, ap length m.words_are);
}
count_bad_second kind (a ∷ b ∷ words) first none = record {
  some = omega arith;
  within = omega arith;
  before = count_begins kind a first.word_is;
  bad = λ within begin.
      let x = begun_as a (b ∷ []) begin in
      let m = count_further kind x.1.command (b ∷ x.0) (x.1.name_is ∙ first.word_is) x.1.are_further in
      none m.count (record { within = omega arith; word_is = let e = m.words_are in cc }) m.n m.number_is;
  missing = λ end. absurd (omega arith);
}

pub count_bad_third : (kind : Counting) (words : List Word) (count : Word) (n : ℕ)
    → IsWordAt words 0 (command_name (counted kind 0))
    → IsWordAt words 1 count → IsNumberUpTo 6 (most_trips kind) count n → ¬ (length words ≡ 2) → AreBadAt words 3
count_bad_third kind [] count n first second is many = absurd (let w = first.within in omega arith)
count_bad_third kind (a ∷ []) count n first second is many = absurd (let w = second.within in omega arith)
count_bad_third kind (a ∷ b ∷ []) count n first second is many = absurd (many refl)
count_bad_third kind (a ∷ b ∷ c ∷ words) count n first second is many = record {
  some = omega arith;
  within = omega arith;
  before = (
    [],
    (
      counted kind n,
      count_asks kind a b n first.word_is
          (subst (λ (x : Word). IsNumberUpTo 6 (most_trips kind) x n) (sym second.word_is) is),
    ),
  );
  bad = λ within begin.
      let x = begun_as a (b ∷ c ∷ []) begin in
      let m = count_further kind x.1.command (b ∷ c ∷ x.0) (x.1.name_is ∙ first.word_is) x.1.are_further in
      omega (arith, ap length m.words_are);
  missing = λ end. absurd (omega arith);
}

-- with nothing behind it, it asks for its command
pub count_accepted : (kind : Counting) (words : List Word) (count : Word) (n : ℕ) (command : Command)
    → IsWordAt words 0 (command_name (counted kind 0)) → IsWordAt words 1 count
    → IsNumberUpTo 6 (most_trips kind) count n → length words ≡ 2 → command ≡ counted kind n → AskFor words command
count_accepted kind [] count n command first second is two same = absurd (omega arith)
count_accepted kind (a ∷ []) count n command first second is two same = absurd (omega arith)
count_accepted kind (a ∷ b ∷ []) count n command first second is two same =
    subst (λ (c : Command). AskFor (a ∷ b ∷ []) c) (sym same)
    (count_asks kind a b n first.word_is
    (subst (λ (x : Word). IsNumberUpTo 6 (most_trips kind) x n) (sym second.word_is) is))
count_accepted kind (a ∷ b ∷ c ∷ words) count n command first second is two same = absurd (omega arith)

-- a command that takes no further words has none behind its name
alone_further : (plain : Plain) (d : Command) (words : List Word) → IsAlone plain
    → command_name d ≡ first_of_plain plain → AreFurther d words → words ≡ []
alone_further (Make n) d words alone e f = absurd alone
alone_further _ (commands.Plain Check) words alone e f = f
alone_further _ (commands.Plain Network) words alone e f = f
alone_further _ (commands.Plain Blocks) words alone e f = f
alone_further _ (commands.Plain Peak) words alone e f = f
alone_further _ (commands.Plain PeakCheck) words alone e f = f
alone_further _ (commands.Plain Replay) words alone e f = f
alone_further _ (commands.Search (Solve effort)) words alone e f = absurd (omega (arith, ap sum e))
alone_further _ _ words alone e f = absurd (omega (arith, ap sum e))

takes_none : (plain : Plain) → IsAlone plain → AreFurther (commands.Plain plain) []
takes_none (Make n) alone = absurd alone
takes_none _ alone = refl

pub alone_bad_second : (plain : Plain) (words : List Word) → IsAlone plain
    → IsWordAt words 0 (first_of_plain plain) → ¬ (length words ≡ 1) → AreBadAt words 2
alone_bad_second plain [] alone first more = absurd (let w = first.within in omega arith)
alone_bad_second plain (a ∷ []) alone first more = absurd (more refl)
alone_bad_second plain (a ∷ b ∷ words) alone first more = record {
  some = omega arith;
  within = omega arith;
  before = ([], (commands.Plain plain, asks a [] (commands.Plain plain) first.word_is (takes_none plain alone)));
  bad = λ within begin.
      let x = begun_as a (b ∷ []) begin in
      let none : b ∷ x.0 ≡ [] = alone_further plain x.1.command (b ∷ x.0) alone (x.1.name_is ∙ first.word_is)
      x.1.are_further in
      cc;
  missing = λ end. absurd (omega arith);
}

-- words of which the first is no command's
not_the_name : (words : List Word) (c : Command) → ¬ (IsWordAt words 0 (codes "check"))
    → ¬ (IsWordAt words 0 (codes "network")) → ¬ (IsWordAt words 0 (codes "blocks"))
    → ¬ (IsWordAt words 0 (codes "solve")) → ¬ (IsWordAt words 0 (codes "make"))
    → ¬ (IsWordAt words 0 (codes "trial")) → ¬ (IsWordAt words 0 (codes "peak"))
    → ¬ (IsWordAt words 0 (codes "peakcheck")) → ¬ (IsWordAt words 0 (codes "resume"))
    → ¬ (IsWordAt words 0 (codes "trace")) → ¬ (IsWordAt words 0 (codes "replay"))
    → ¬ (IsWordAt words 0 (command_name c))
not_the_name words (commands.Plain Check) check network blocks solve make trial peak peakcheck resume trace
    replay = check
not_the_name words (commands.Plain Network) check network blocks solve make trial peak peakcheck resume trace
    replay = network
not_the_name words (commands.Plain Blocks) check network blocks solve make trial peak peakcheck resume trace
    replay = blocks
not_the_name words (commands.Search (Solve effort)) check network blocks solve make trial peak peakcheck resume trace
    replay = solve
not_the_name words (commands.Plain (Make n)) check network blocks solve make trial peak peakcheck resume trace
    replay = make
not_the_name words (commands.Search (Trial n)) check network blocks solve make trial peak peakcheck resume trace
    replay = trial
not_the_name words (commands.Plain Peak) check network blocks solve make trial peak peakcheck resume trace replay = peak
not_the_name words (commands.Plain PeakCheck) check network blocks solve make trial peak peakcheck resume trace
    replay = peakcheck
not_the_name words (commands.Search (Resume effort)) check network blocks solve make trial peak peakcheck resume trace
    replay = resume
not_the_name words (commands.Search (Trace effort)) check network blocks solve make trial peak peakcheck resume trace
    replay = trace
not_the_name words (commands.Plain Replay) check network blocks solve make trial peak peakcheck resume trace
    replay = replay

pub first_bad : (words : List Word) → ((c : Command) → ¬ (IsWordAt words 0 (command_name c))) → AreBadAt words 1
first_bad [] none = record {
  some = omega arith;
  within = omega arith;
  before = (codes "check" ∷ [], (commands.Plain Check, asks (codes "check") [] (commands.Plain Check) refl refl));
  bad = λ within. absurd (omega arith);
  missing = λ end accepted. let e = accepted.1.words_are in omega (arith, ap length e);
}
first_bad (a ∷ words) none = record {
  some = omega arith;
  within = omega arith;
  before = (codes "check" ∷ [], (commands.Plain Check, asks (codes "check") [] (commands.Plain Check) refl refl));
  bad = λ within begin.
      let b = begun_as a [] begin in
      none b.1.command (record { within = omega arith; word_is = sym b.1.name_is });
  missing = λ end. absurd (omega arith);
}

pub no_command : (words : List Word) → ¬ (IsWordAt words 0 (codes "check"))
    → ¬ (IsWordAt words 0 (codes "network")) → ¬ (IsWordAt words 0 (codes "blocks"))
    → ¬ (IsWordAt words 0 (codes "solve")) → ¬ (IsWordAt words 0 (codes "make"))
    → ¬ (IsWordAt words 0 (codes "trial")) → ¬ (IsWordAt words 0 (codes "peak"))
    → ¬ (IsWordAt words 0 (codes "peakcheck")) → ¬ (IsWordAt words 0 (codes "resume"))
    → ¬ (IsWordAt words 0 (codes "trace")) → ¬ (IsWordAt words 0 (codes "replay")) → AreBadAt words 1
no_command words check network blocks solve make trial peak peakcheck resume trace replay =
    first_bad words (λ c. not_the_name words c check network blocks solve make trial peak peakcheck resume trace
    replay)

-- a word that was read, as bytes
pub word_read : (words : List (String Global)) (place : ℕ) (word : String Global) → place < length words
    → word ≡ get_or words place word → IsWordAt (words_of words) place (string_bytes word)
word_read words place word lt e = record {
  within = rw length-map lt;
  word_is = get_or-map string_bytes words place word [] lt ∙ ap string_bytes (sym e);
}

-- whether the word that was read is the one wanted
pub is_word_by : (words : List (String Global)) (place : ℕ) (word : String Global) (wanted bytes : List ℕ)
    (same : Bool) → place < length words
    → word ≡ get_or words place word → bytes ≡ string_bytes word → same ≡ bytes_eq bytes wanted
    → (same ≡ true → IsWordAt (words_of words) place wanted) × (IsWordAt (words_of words) place wanted → same ≡ true)
is_word_by words place word wanted bytes same lt e b s =
    let read = word_read words place word lt e in (
      λ t. record {
        within = read.within;
        word_is = read.word_is ∙ sym b ∙ (bytes_eq-Decides bytes wanted).0 (sym s ∙ t);
      },
      λ w. s ∙ (bytes_eq-Decides bytes wanted).1 (b ∙ sym read.word_is ∙ w.word_is),
    )
