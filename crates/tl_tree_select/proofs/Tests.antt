-- Tests of elements.
use Rattle.std.proofs.Common.{◌≡◌, ◌↔◌, Bool, true, None, Option, Some, Result, Ok, Err, IfOk, ap, ℕ, List, subst, sym, ◌∙◌}
use Rattle.std.proofs.lemmas.Option.{none-some, same_Some}
use Rattle.std.specs.Option.{option_map}
use Rattle.tl_css.specs.Selector.{Ident, Test}
use Rattle.tl_names.specs.ElementNames.{name_of}
use Rattle.tl_names.specs.declared.element_name.ElementName.{ElementName}
use Rattle.tl_tree_select.specs.Meaning.{IsMet, spelled}
use Rattle.tl_tree_select.specs.Page.{Page}

-- what is answered of a test that is another one
pub met_as : {E : Type 0} (page : Page) (n : ℕ) (t u : Test) (r : Result Bool E) (P : Type 0) → t ≡ u → (P ↔ IsMet page u n)
    → IfOk r (λ has. (has ≡ true) ↔ P) → IfOk r (λ met. (met ≡ true) ↔ IsMet page t n)
met_as page n t u (Err x) P e is h = tt
met_as page n t u (Ok b) P e is h = (
  λ m. subst (λ (t : Test). IsMet page t n) (sym e) (is.0 (h.0 m)),
  λ k. h.1 (is.1 (subst (λ (t : Test). IsMet page t n) e k)),
)

-- an element of a name has its number
pub known_name : (o : Option (List ℕ)) (is_html : Bool) (own known : ElementName) (name : Ident) → Some own ≡ option_map name_of o → is_html ≡ true
    → known ≡ name_of name.lower → o ≡ Some (spelled is_html name) → own ≡ known
known_name o is_html own known name got html is named =
    let wanted : o ≡ Some name.lower = subst (λ (b : Bool). o ≡ Some (spelled b name)) html named in
    same_Some own known (got ∙ ap (option_map name_of) wanted ∙ ap Some (sym is))

pub no_name : (o : Option (List ℕ)) (name : List ℕ) → None ≡ option_map name_of o → o ≡ Some name → ⊥
no_name o name got named = none-some (name_of name) (got ∙ ap (option_map name_of) named)
