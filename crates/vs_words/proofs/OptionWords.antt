-- Words that ask for a search by its options, one after the other.
use Rattle.std.proofs.Common.{◌≡◌, ◌≢◌, ◌⊎◌, ℕ, ◌+◌, ◌<◌, List, [], ◌∷◌, ◌++◌, length, take, get_or, sum, codes, refl, ap, sym, ◌∙◌, subst, arith, inl, inr, append-nil, append_assoc}
use Rattle.std.specs.List.{All}
use Rattle.std.specs.Prelude.{IsSome}
use Rattle.std.specs.Str.Parse.{digits_value}
use Rattle.std.proofs.Math.Seq.{take-length}
use Rattle.std.proofs.lemmas.List.{take_more}
use Rattle.std.proofs.lemmas.List.Elements.{All-append, All-cons, All-head, All-nil, All-tail}
use Rattle.vs_words.specs.declared.command.Effort.{Effort}
use Rattle.vs_words.specs.declared.words.Given.{Given}
use Rattle.vs_words.specs.declared.words.Searching.{Searching}
use Rattle.vs_words.specs.declared.words.Setting.{Setting}
use Rattle.vs_words.specs.declared.words.Setting.TheVariants.{Workers, Nodes, Seconds, Gap}
use Rattle.vs_words.specs.Words.{Word, AreAccepted, AreBadAt, AreOnce, AreOptions, AreOptionsTaken, AskFor, Begin, GivenOption, HaveNumbers, IsNumberFor, IsWordAt, default_effort, effort_of, given_by, given_with, none_given, number_in, option_words, search_name, searched, setting_name, with_options, with_setting}
use Rattle.vs_words.proofs.CommandWords.{accepted_search, asks_search, one_up_to}

-- options of one name are one option
same_setting : (s t : Setting) → setting_name s ≡ setting_name t → s ≡ t
same_setting Workers Workers e = refl
same_setting Nodes Nodes e = refl
same_setting Seconds Seconds e = refl
same_setting Gap Gap e = refl
same_setting Workers Nodes e = absurd (omega (arith, ap sum e))
same_setting Workers Seconds e = absurd (omega (arith, ap sum e))
same_setting Workers Gap e = absurd (omega (arith, ap sum e))
same_setting Nodes Workers e = absurd (omega (arith, ap sum e))
same_setting Nodes Seconds e = absurd (omega (arith, ap sum e))
same_setting Nodes Gap e = absurd (omega (arith, ap sum e))
same_setting Seconds Workers e = absurd (omega (arith, ap sum e))
same_setting Seconds Nodes e = absurd (omega (arith, ap sum e))
same_setting Seconds Gap e = absurd (omega (arith, ap sum e))
same_setting Gap Workers e = absurd (omega (arith, ap sum e))
same_setting Gap Nodes e = absurd (omega (arith, ap sum e))
same_setting Gap Seconds e = absurd (omega (arith, ap sum e))

-- two options are one or not
either : (s t : Setting) → (s ≡ t) ⊎ (s ≢ t)
either Workers Workers = inl refl
either Nodes Nodes = inl refl
either Seconds Seconds = inl refl
either Gap Gap = inl refl
either Workers Nodes = inr (λ e. cc)
either Workers Seconds = inr (λ e. cc)
either Workers Gap = inr (λ e. cc)
either Nodes Workers = inr (λ e. cc)
either Nodes Seconds = inr (λ e. cc)
either Nodes Gap = inr (λ e. cc)
either Seconds Workers = inr (λ e. cc)
either Seconds Nodes = inr (λ e. cc)
either Seconds Gap = inr (λ e. cc)
either Gap Workers = inr (λ e. cc)
either Gap Nodes = inr (λ e. cc)
either Gap Seconds = inr (λ e. cc)

-- every option takes 1
one_for : (s : Setting) → IsNumberFor s (codes "1") 1
one_for Workers = record { number = one_up_to 6 64 (omega arith) (omega arith); many = omega arith }
one_for Nodes = record { number = one_up_to 6 100000 (omega arith) (omega arith); many = omega arith }
one_for Seconds = record { number = one_up_to 7 86400 (omega arith) (omega arith); many = omega arith }
one_for Gap = record { number = one_up_to 7 1000000 (omega arith) (omega arith); many = omega arith }

-- none of these options is this one
abbrev IsNew : Setting → List GivenOption → Type 0
IsNew s options = All (λ o. o.setting ≢ s) options

abbrev HasNumber : GivenOption → Type 0
HasNumber o = IsNumberFor o.setting o.word o.n

words-append : (os ps : List GivenOption) → option_words (os ++ ps) ≡ option_words os ++ option_words ps
words-append [] ps = refl
words-append (o ∷ os) ps = ap (λ (words : List Word). setting_name o.setting ∷ o.word ∷ words) (words-append os ps)

-- one option more
once-more : (os : List GivenOption) (o : GivenOption) → AreOnce os → IsNew o.setting os → AreOnce (os ++ o ∷ [])
once-more [] o once new = (All-nil (λ (other : GivenOption). other.setting ≢ o.setting), tt)
once-more (first ∷ os) o once new =
    let Other : GivenOption → Type 0 = λ other. other.setting ≢ first.setting in
    let Apart : GivenOption → Type 0 = λ other. other.setting ≢ o.setting in
    let here : o.setting ≢ first.setting = λ same. All-head Apart first os new (sym same) in (
      All-append Other os (o ∷ []) once.0 (All-cons Other o [] here (All-nil Other)),
      once-more os o once.1 (All-tail Apart first os new),
    )

given-more : (g : Given) (os : List GivenOption) (o : GivenOption)
    → given_by g (os ++ o ∷ []) ≡ given_with o.setting (given_by g os) o.n
given-more g [] o = refl
given-more g (first ∷ os) o = given-more (given_with first.setting g first.n) os o

-- what another option was given stays
apart-kept : (s t : Setting) (g : Given) (n : ℕ) → t ≢ s → number_in s (given_with t g n) ≡ number_in s g
apart-kept Workers Workers g n apart = absurd (apart refl)
apart-kept Nodes Nodes g n apart = absurd (apart refl)
apart-kept Seconds Seconds g n apart = absurd (apart refl)
apart-kept Gap Gap g n apart = absurd (apart refl)
apart-kept Workers Nodes g n apart = refl
apart-kept Workers Seconds g n apart = refl
apart-kept Workers Gap g n apart = refl
apart-kept Nodes Workers g n apart = refl
apart-kept Nodes Seconds g n apart = refl
apart-kept Nodes Gap g n apart = refl
apart-kept Seconds Workers g n apart = refl
apart-kept Seconds Nodes g n apart = refl
apart-kept Seconds Gap g n apart = refl
apart-kept Gap Workers g n apart = refl
apart-kept Gap Nodes g n apart = refl
apart-kept Gap Seconds g n apart = refl

given-there : (s : Setting) (g : Given) (n : ℕ) → IsSome (number_in s (given_with s g n))
given-there Workers g n = refl
given-there Nodes g n = refl
given-there Seconds g n = refl
given-there Gap g n = refl

-- what was given stays given
given-stays : (s : Setting) (g : Given) (os : List GivenOption) → IsSome (number_in s g)
    → IsSome (number_in s (given_by g os))
given-stays s g [] some = some
given-stays s g (o ∷ os) some =
    given-stays s (given_with o.setting g o.n) os (elim (either o.setting s) [
      | inl same ↦ subst (λ (t : Setting). IsSome (number_in s (given_with t g o.n))) (sym same) (given-there s g o.n)
      | inr apart ↦ subst IsSome (sym (apart-kept s o.setting g o.n apart)) some
    ])

-- an option that isn't among these was given before them or not at all
new-kept : (s : Setting) (g : Given) (os : List GivenOption) → IsNew s os
    → number_in s (given_by g os) ≡ number_in s g
new-kept s g [] new = refl
new-kept s g (o ∷ os) new =
    let Apart : GivenOption → Type 0 = λ other. other.setting ≢ s in
    new-kept s (given_with o.setting g o.n) os (All-tail Apart o os new)
    ∙ apart-kept s o.setting g o.n (All-head Apart o os new)

-- one that wasn't given isn't among them
not_given-new : (s : Setting) (g : Given) (os : List GivenOption) → ¬ (IsSome (number_in s (given_by g os)))
    → IsNew s os
not_given-new s g [] none = All-nil (λ (other : GivenOption). other.setting ≢ s)
not_given-new s g (o ∷ os) none =
    All-cons (λ (other : GivenOption). other.setting ≢ s) o os
    (λ same. none (given-stays s (given_with o.setting g o.n) os
    (subst (λ (t : Setting). IsSome (number_in s (given_with t g o.n))) (sym same) (given-there s g o.n))))
    (not_given-new s (given_with o.setting g o.n) os none)

no_number : (s : Setting) → ¬ (IsSome (number_in s none_given))
no_number Workers some = cc
no_number Nodes some = cc
no_number Seconds some = cc
no_number Gap some = cc

-- the effort of what was given is the usual one with the options in it
effort-with : (s : Setting) (g : Given) (n : ℕ) → effort_of (given_with s g n) ≡ with_setting s (effort_of g) n
effort-with Workers g n = refl
effort-with Nodes g n = refl
effort-with Seconds g n = refl
effort-with Gap g n = refl

effort-by : (g : Given) (os : List GivenOption) → effort_of (given_by g os) ≡ with_options (effort_of g) os
effort-by g [] = refl
effort-by g (o ∷ os) =
    effort-by (given_with o.setting g o.n) os
    ∙ ap (λ (effort : Effort). with_options effort os) (effort-with o.setting g o.n)

-- options whose words begin as those of others go on with further ones, which are none of these
record GoOn (ps : List GivenOption) (rest : List Word) : Type 0 where
  tail : List GivenOption
  words_are : option_words tail ≡ rest
  numbers : HaveNumbers tail
  fresh : (s : Setting) → ¬ (IsNew s ps) → IsNew s tail

-- what is new among options is new among the last of them
record EndsIn (os ps : List GivenOption) (rest : List Word) : Type 0 where
  goes_on : GoOn ps rest
  part : (s : Setting) → IsNew s os → IsNew s goes_on.tail

parted : (os ps : List GivenOption) (rest : List Word) → option_words os ≡ option_words ps ++ rest → HaveNumbers os
    → AreOnce os → EndsIn os ps rest
parted os [] rest same numbers once = record {
  goes_on = record {
    tail = os;
    words_are = same;
    numbers = numbers;
    fresh = λ s not_new. absurd (not_new (All-nil (λ (other : GivenOption). other.setting ≢ s)));
  };
  part = λ s new. new;
}
parted [] (p ∷ ps) rest same numbers once = absurd cc
parted (o ∷ os) (p ∷ ps) rest same numbers once =
    let name : setting_name o.setting ≡ setting_name p.setting = cc in
    let words : option_words os ≡ option_words ps ++ rest = cc in
    let setting = same_setting o.setting p.setting name in
    let more = parted os ps rest words (All-tail HasNumber o os numbers) once.1 in
    record {
      goes_on = record {
        tail = more.goes_on.tail;
        words_are = more.goes_on.words_are;
        numbers = more.goes_on.numbers;
        fresh = λ s not_new. elim (either p.setting s) [
          | inl same_too ↦
              subst (λ (t : Setting). IsNew t more.goes_on.tail) (setting ∙ same_too) (more.part o.setting once.0)
          | inr apart ↦
              more.goes_on.fresh s (λ new.
              not_new (All-cons (λ (other : GivenOption). other.setting ≢ s) p ps apart new))
        ];
      };
      part = λ s new. more.part s (All-tail (λ (other : GivenOption). other.setting ≢ s) o os new);
    }

-- words of options write one list of them
same_options : (os ps : List GivenOption) → option_words os ≡ option_words ps → HaveNumbers os → HaveNumbers ps
    → os ≡ ps
same_options [] [] same a b = refl
same_options [] (p ∷ ps) same a b = absurd cc
same_options (o ∷ os) [] same a b = absurd cc
same_options (o ∷ os) (p ∷ ps) same a b =
    let name : setting_name o.setting ≡ setting_name p.setting = cc in
    let word : o.word ≡ p.word = cc in
    let words : option_words os ≡ option_words ps = cc in
    let setting = same_setting o.setting p.setting name in
    let number : o.n ≡ p.n =
    (All-head HasNumber o os a).number.value
    ∙ (ap (digits_value 10) word ∙ sym (All-head HasNumber p ps b).number.value) in
    let first : o ≡ p = λ i. record { setting = setting i; word = word i; n = number i } in
    let rest = same_options os ps words (All-tail HasNumber o os a) (All-tail HasNumber p ps b) in
    (λ i. first i ∷ rest i)

-- and so they set one effort
pub one_effort : (words : List Word) (c d : Effort) → AreOptions c words → AreOptions d words → c ≡ d
one_effort words c d a b =
    let same = same_options a.options b.options (sym a.words_are ∙ b.words_are) a.numbers b.numbers in
    a.effort_is ∙ (ap (with_options default_effort) same ∙ sym b.effort_is)

-- before any option
pub taken_none : (kind : Searching) (words : List Word) → IsWordAt words 0 (search_name kind)
    → AreOptionsTaken kind words 1 none_given
taken_none kind [] first = absurd (let w = first.within in omega (arith, w))
taken_none kind (a ∷ words) first = record {
  options = [];
  within = omega arith;
  words_are = ap (λ (w : Word). w ∷ []) first.word_is;
  numbers = All-nil HasNumber;
  once = tt;
  given_is = refl;
}

-- the name of a search and options ask for it
asks_with : (kind : Searching) (options : List GivenOption) → HaveNumbers options → AreOnce options
    → AskFor (search_name kind ∷ option_words options) (searched kind (with_options default_effort options))
asks_with kind options numbers once =
    asks_search kind (search_name kind) (with_options default_effort options) (option_words options) refl
    (record { options = options; words_are = refl; numbers = numbers; once = once; effort_is = refl })

module _ (kind : Searching) (words : List Word) (place : ℕ) (given : Given)
    (taken : AreOptionsTaken kind words place given)
  where
    abbrev before : List Word
    before = search_name kind ∷ option_words taken.options

    -- what is accepted that begins so goes on with options
    accepted_rest : (rest : List Word) → AreAccepted (take place words ++ rest) → GoOn taken.options rest
    accepted_rest rest accepted =
        let whole : AreAccepted (search_name kind ∷ (option_words taken.options ++ rest)) =
        subst (λ (l : List Word). AreAccepted (l ++ rest)) taken.words_are accepted in
        let found = accepted_search kind (search_name kind) (option_words taken.options ++ rest) refl whole in
        let options = found.1 in
        (parted options.options taken.options rest (sym options.words_are) options.numbers options.once).goes_on

    -- without a word more they ask for a search
    pub taken_all : ¬ (place < length words) → AskFor words (searched kind (effort_of given))
    taken_all end =
        let within = taken.within in
        let size : place ≡ length words = omega (arith, within, end) in
        let all : before ≡ words =
        sym taken.words_are ∙ (ap (λ (n : ℕ). take n words) size ∙ take-length words) in
        let effort : with_options default_effort taken.options ≡ effort_of given =
        sym (effort-by none_given taken.options) ∙ ap effort_of (sym taken.given_is) in
        subst (λ (e : Effort). AskFor words (searched kind e)) effort
        (subst (λ (l : List Word). AskFor l (searched kind (with_options default_effort taken.options))) all
        (asks_with kind taken.options taken.numbers taken.once))

    taken_begin : Begin (take place words)
    taken_begin =
        let accepted : AreAccepted before = (
          searched kind (with_options default_effort taken.options),
          asks_with kind taken.options taken.numbers
              taken.once,
        ) in
        ([], subst AreAccepted (sym taken.words_are ∙ sym (append-nil (take place words))) accepted)

    module _ (inside : place < length words) where
      abbrev word : Word
      word = get_or words place []

      next_word : take (place + 1) words ≡ take place words ++ word ∷ []
      next_word = take_more words place [] inside

      -- a word that goes on with no option is bad
      bad_next : ((rest : List Word) → ¬ (GoOn taken.options (word ∷ rest))) → AreBadAt words (place + 1)
      bad_next none = record {
        some = omega arith;
        within = omega (arith, inside);
        before = subst (λ (n : ℕ). Begin (take n words)) (omega arith) taken_begin;
        bad = λ within begin.
            let all : AreAccepted (take place words ++ (word ∷ begin.0)) =
            subst AreAccepted
            (ap (λ (l : List Word). l ++ begin.0) next_word ∙ append_assoc (take place words) (word ∷ []) begin.0)
            begin.1 in
            none begin.0 (accepted_rest (word ∷ begin.0) all);
        missing = λ end. absurd (omega (arith, inside, end));
      }

      -- a word that is no option's name
      pub bad_name : ((s : Setting) → ¬ (IsWordAt words place (setting_name s))) → AreBadAt words (place + 1)
      bad_name wrong = bad_next (λ rest goes_on. no_name rest goes_on.tail goes_on.words_are)
        where
          no_name : (rest : List Word) (tail : List GivenOption) → option_words tail ≡ word ∷ rest → ⊥
          no_name rest [] same = cc
          no_name rest (o ∷ tail) same =
              let name : word ≡ setting_name o.setting = cc in
              wrong o.setting (record { within = inside; word_is = name })

      module _ (s : Setting) (name : IsWordAt words place (setting_name s)) where
        -- the name of an option that was given
        pub bad_again : IsSome (number_in s given) → AreBadAt words (place + 1)
        bad_again some =
            bad_next (λ rest goes_on. not_again rest goes_on.tail goes_on.words_are (goes_on.fresh s not_new))
          where
            not_new : ¬ (IsNew s taken.options)
            not_new new =
                no_number s
                (subst IsSome (ap (number_in s) taken.given_is ∙ new-kept s none_given taken.options new) some)

            not_again : (rest : List Word) (tail : List GivenOption) → option_words tail ≡ word ∷ rest
                → ¬ (IsNew s tail)
            not_again rest [] same new = cc
            not_again rest (o ∷ tail) same new =
                let own : setting_name o.setting ≡ word = cc in
                All-head (λ (other : GivenOption). other.setting ≢ s) o tail new
                (same_setting o.setting s (own ∙ name.word_is))

        module _ (fresh : ¬ (IsSome (number_in s given))) where
          new : IsNew s taken.options
          new =
              not_given-new s none_given taken.options
              (λ some. fresh (subst (λ (g : Given). IsSome (number_in s g)) (sym taken.given_is) some))

          abbrev with_one : Word → ℕ → List GivenOption
          with_one value n = taken.options ++ record { setting = s; word = value; n = n } ∷ []

          words_with : (value : Word) (n : ℕ)
              → search_name kind ∷ option_words (with_one value n) ≡ (take place words ++ word ∷ []) ++ value ∷ []
          words_with value n =
              ap (λ (l : List Word). search_name kind ∷ l)
              (words-append taken.options (record { setting = s; word = value; n = n } ∷ []))
              ∙ (ap (λ (w : Word). before ++ w ∷ value ∷ []) (sym name.word_is)
              ∙ (ap (λ (l : List Word). l ++ word ∷ value ∷ []) (sym taken.words_are)
              ∙ sym (append_assoc (take place words) (word ∷ []) (value ∷ []))))

          numbers_with : (value : Word) (n : ℕ) → IsNumberFor s value n
              → HaveNumbers (with_one value n)
          numbers_with value n is =
              let o : GivenOption = record { setting = s; word = value; n = n } in
              All-append HasNumber taken.options (o ∷ []) taken.numbers (All-cons HasNumber o [] is (All-nil HasNumber))

          -- one option more was taken
          pub taken_more : (n : ℕ) → (value : Word) × IsWordAt words (place + 1) value × IsNumberFor s value n
              → AreOptionsTaken kind words (place + 2) (given_with s given n)
          taken_more n (value, at, is) =
              let o : GivenOption = record { setting = s; word = value; n = n } in
              let behind = at.within in
              let two : take (place + 2) words ≡ (take place words ++ word ∷ []) ++ value ∷ [] =
              ap (λ (k : ℕ). take k words) (omega arith)
              ∙ (take_more words (place + 1) [] behind
              ∙ (λ i. next_word i ++ at.word_is i ∷ [])) in
              record {
                options = with_one value n;
                within = omega (arith, behind);
                words_are = two ∙ sym (words_with value n);
                numbers = numbers_with value n is;
                once = once-more taken.options o taken.once new;
                given_is = ap (λ (g : Given). given_with s g n) taken.given_is
                    ∙ sym (given-more none_given taken.options o);
              }

          name_begins : Begin (take (place + 1) words)
          name_begins =
              let o : GivenOption = record { setting = s; word = codes "1"; n = 1 } in
              let options = with_one (codes "1") 1 in
              let accepted : AreAccepted (search_name kind ∷ option_words options) = (
                searched kind (with_options default_effort options),
                asks_with kind options
                    (numbers_with (codes "1") 1 (one_for s)) (once-more taken.options o taken.once new),
              ) in (
                codes "1" ∷ [],
                subst AreAccepted
                    (words_with (codes "1") 1 ∙ ap (λ (l : List Word). l ++ codes "1" ∷ []) (sym next_word)) accepted,
              )

          -- what goes on with this name goes on with one of its numbers
          number_next : (rest : List Word) → GoOn taken.options (word ∷ rest)
              → (value : Word) × (more : List Word) × (n : ℕ) × (rest ≡ value ∷ more) × IsNumberFor s value n
          number_next rest goes_on = by_tail goes_on.tail goes_on.words_are goes_on.numbers
            where
              by_tail : (tail : List GivenOption) → option_words tail ≡ word ∷ rest → HaveNumbers tail
                  → (value : Word) × (more : List Word) × (n : ℕ) × (rest ≡ value ∷ more) × IsNumberFor s value n
              by_tail [] same numbers = absurd cc
              by_tail (o ∷ tail) same numbers =
                  let own : setting_name o.setting ≡ word = cc in
                  let behind : rest ≡ o.word ∷ option_words tail = cc in
                  let setting = same_setting o.setting s (own ∙ name.word_is) in (
                    o.word,
                    option_words tail,
                    o.n,
                    behind,
                    subst (λ (t : Setting). IsNumberFor t o.word o.n) setting (All-head HasNumber o tail numbers),
                  )

          -- behind the name only one of its numbers may stand
          pub bad_number : ((value : Word) (n : ℕ) → IsWordAt words (place + 1) value → ¬ (IsNumberFor s value n))
              → AreBadAt words (place + 2)
          bad_number none = record {
            some = omega arith;
            within = omega (arith, inside);
            before = subst (λ (n : ℕ). Begin (take n words)) (omega arith) name_begins;
            bad = λ within begin.
                let behind : place + 1 < length words = omega (arith, within) in
                let value : Word = get_or words (place + 1) [] in
                let two : take (place + 2) words ≡ (take place words ++ word ∷ []) ++ value ∷ [] =
                ap (λ (k : ℕ). take k words) (omega arith)
                ∙ (take_more words (place + 1) [] behind ∙ ap (λ (l : List Word). l ++ value ∷ []) next_word) in
                let all : AreAccepted (take place words ++ (word ∷ value ∷ begin.0)) =
                subst AreAccepted
                (ap (λ (l : List Word). l ++ begin.0) two
                ∙ (append_assoc (take place words ++ word ∷ []) (value ∷ []) begin.0
                ∙ append_assoc (take place words) (word ∷ []) (value ∷ begin.0)))
                begin.1 in
                let found = number_next (value ∷ begin.0) (accepted_rest (word ∷ value ∷ begin.0) all) in
                let same : found.0 ≡ value = let e = found.3 in cc in
                none value found.2 (record { within = behind; word_is = refl })
                (subst (λ (w : Word). IsNumberFor s w found.2) same found.4);
            missing = λ end accepted.
                let size : place + 1 ≡ length words = omega (arith, end) in
                let all : words ≡ take place words ++ word ∷ [] =
                sym (take-length words) ∙ (ap (λ (k : ℕ). take k words) (sym size) ∙ next_word) in
                let found = number_next [] (accepted_rest (word ∷ []) (subst AreAccepted all accepted)) in
                let none_behind : [] ≡ found.0 ∷ found.1 = found.3 in
                cc;
          }
