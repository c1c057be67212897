use Rattle.std.proofs.Common.{◌≡◌, ◌<◌, ◌++◌, [], ◌∷◌, sym, ap, ◌∙◌, subst, get_or, set, length, arith, Some, None, ℕ, Option, List}
use Rattle.std.specs.List.{slice_get}
use Rattle.std.proofs.lemmas.List.{get_or_default}
use Rattle.vs_cert.specs.Numbering.{ArePlacesOf, Numbered, place_in, with_number}
use Rattle.vs_cert.proofs.states.Numberings.{grown_places, known_before, new_now, stands-last}
use Rattle.vs_cert.proofs.numbering.Numbering.place.Goals as goal

-- the place that was read
was : (places : List (Option ℕ)) (n : ℕ) (read : Option ℕ) → n < length places → read ≡ get_or places n read
    → place_in places n ≡ read
was places n read within is = sym (is ∙ get_or_default places n read None within)

pub returns-in-Some-clause-numbers : goal.returns-in-Some-clause-numbers
returns-in-Some-clause-numbers c =
    let places = c.self.inside.places.items in let numbers = c.self.inside.numbers.items in
    let limit = ap (λ (v : Numbered). v.limit) c.self.view_is in
    let inside : c.args.number < length places = omega (arith, limit, c.requires.below) in
    let at = was places c.args.number c.index.result.now inside c.index.ensures ∙ c.in-Some.is in
    let same = known_before places numbers c.args.number c.self.invariant c.in-Some.place at in
    subst (λ (v : Numbered). v.numbers ≡ with_number v.numbers c.args.number) c.self.view_is (sym same)

pub invariant_of-self : goal.invariant_of-self
invariant_of-self c =
    let places = c.self.inside.places.items in let numbers = c.self.inside.numbers.items in
    let limit = ap (λ (v : Numbered). v.limit) c.self.view_is in
    let inside : c.args.number < length places = omega (arith, limit, c.requires.below) in
    let at = was places c.args.number c.index.result.now inside c.index.ensures ∙ c.in_default.is in
    let are = grown_places places numbers c.args.number c.self.invariant inside at in
    let size : c.len-place.result ≡ length numbers = omega (arith, c.len-place.ensures, c.self.inside.numbers.ok.0) in
    subst (λ (more : List ℕ). ArePlacesOf (set places c.args.number (Some c.len-place.result)) more)
    (sym c.in-Ok.ensures.items)
    (subst (λ (n : ℕ). ArePlacesOf (set places c.args.number (Some n)) (numbers ++ c.args.number ∷ [])) (sym size) are)

pub returns-in-Ok-clause-numbers : goal.returns-in-Ok-clause-numbers
returns-in-Ok-clause-numbers c =
    let places = c.self.inside.places.items in let numbers = c.self.inside.numbers.items in
    let limit = ap (λ (v : Numbered). v.limit) c.self.view_is in
    let inside : c.args.number < length places = omega (arith, limit, c.requires.below) in
    let at = was places c.args.number c.index.result.now inside c.index.ensures ∙ c.in_default.is in
    c.in-Ok.ensures.items ∙ sym (new_now places numbers c.args.number c.self.invariant at)
    ∙ ap (λ (v : Numbered). with_number v.numbers c.args.number) c.self.view_is

pub returns-in-Ok-clause-named : goal.returns-in-Ok-clause-named
returns-in-Ok-clause-named c =
    let numbers = c.self.inside.numbers.items in
    let size : c.len-place.result ≡ length numbers = omega (arith, c.len-place.ensures, c.self.inside.numbers.ok.0) in
    ap (λ (more : List ℕ). slice_get more c.len-place.result) c.in-Ok.ensures.items
    ∙ ap (slice_get (numbers ++ c.args.number ∷ [])) size ∙ stands-last numbers c.args.number
