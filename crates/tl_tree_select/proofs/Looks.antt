-- What a test asks for is seen by its look.
use Rattle.std.proofs.Common.{◌≡◌, ◌∙◌, ◌≤◌, ◌↔◌, ◌||◌, ap, ℕ, zero, suc, List, Bool, Result, Ok, Err, true, false, Option, None, Some, IfSome, length, sym, arith, inl, inr, refl, subst, codes, bytes_eq}
use Rattle.std.specs.Option.{IsSome, IsSomeAnd, option_and_then, option_map, option_map_or, unwrap_or}
use Rattle.std.specs.Prelude.{⊤, IfOk, [], is_some, nat_eq}
use Rattle.std.specs.Char.{to_ascii_lowercase}
use Rattle.std.proofs.lemmas.Bool.{cases_Bool, cases_lt, eq-eqb, eqb-true, false≢true}
use Rattle.std.proofs.lemmas.Slice.Eq.{bytes_eq-Decides}
use Rattle.std.proofs.lemmas.Option.{none-some, same_Some}
use Rattle.std.proofs.lemmas.List.{length-map}
use Rattle.tl_css.specs.Selector as s
use Rattle.tl_css.specs.Program.{selector_of}
use Rattle.tl_css.specs.View.{test}
use Rattle.tl_css.specs.declared.selector.Case.{Case}
use Rattle.tl_css.specs.declared.selector.Op.{Op}
use Rattle.tl_css.specs.declared.selector.Op.TheVariants.{Equals, Word}
use Rattle.tl_css.specs.declared.selector.Space.TheVariants.{Bare}
use Rattle.tl_css.specs.declared.selector.Step.{Step}
use Rattle.tl_css.specs.declared.selector.Test.{Test}
use Rattle.tl_names.proofs.ElementNames.{name_of_other, same_number}
use Rattle.tl_names.specs.ElementNames.{element_names, name_of as number_of}
use Rattle.tl_names.specs.Elements.{is_among}
use Rattle.tl_names.specs.declared.element_name.ElementName.{ElementName}
use Rattle.tl_tree.specs.Asked.{attributes_at, attributes_of, name_of, node_at, value_of}
use Rattle.tl_tree.specs.Rows.{Node, a_comment, a_doctype, a_text, an_element, contents}
use Rattle.tl_tree_select.specs.Inner.Compound.{HoldBelow, HoldFrom, HoldsAt, IsCompound, first_test}
use Rattle.tl_tree_select.specs.Inner.Links.{one_if}
use Rattle.tl_tree_select.specs.Inner.Looking.{HasNameNumber, IsSeen, is_of_elements}
use Rattle.tl_tree_select.specs.declared.look.Look.{Look}
use Rattle.tl_tree_select.specs.declared.look.Look.TheVariants as l
use Rattle.tl_tree_select.specs.Meaning.{HasValue, Holds, IsElement, Passes, PassesBy, folded, folds_at, is_element, is_html_at, spelled}
use Rattle.tl_tree_select.specs.Page.{Page}
use Rattle.tl_tree_select.proofs.Compounds.{all_hold}
use Rattle.tl_tree_select.proofs.Values.{none_longer}

folded_len : (folds : Bool) (bytes : List ℕ) → length (folded folds bytes) ≡ length bytes
folded_len true bytes = length-map bytes to_ascii_lowercase
folded_len false bytes = refl

-- what passes is as long as the value
long_enough : (folds : Bool) (op : Op) (value own : List ℕ) → PassesBy folds op value own → length value ≤ length own
long_enough folds op value own h =
    let v = folded_len folds value in
    let o = folded_len folds own in
    elim (cases_lt (length own) (length value)) as (λ _. length value ≤ length own) [
      | inl lt ↦ absurd (none_longer op (folded folds value) (folded folds own) (omega (arith, lt, v, o)) h)
      | inr ge ↦ ge
    ]

weaker : (P Q : List ℕ → Type 0) (o : Option (List ℕ)) → ((own : List ℕ) → P own → Q own) → IsSomeAnd o P → IsSomeAnd o Q
weaker P Q None more h = h
weaker P Q (Some own) more h = more own h

-- Names by their numbers

pub number_at : (o : Option (List ℕ)) (own known : ElementName) (b : Bool) → Some own ≡ option_map number_of o → b ≡ nat_eq own.number known.number
    → (b ≡ true) ↔ (option_map (λ name. (number_of name).number) o ≡ Some known.number)
number_at None own known b got is = absurd (none-some own (sym got))
number_at (Some name) own known b got is =
    let same : own.number ≡ (number_of name).number = ap (λ (e : ElementName). e.number) (same_Some own (number_of name) got) in (
      λ t. ap (λ (k : ℕ). Some k) (sym same ∙ eqb-true own.number known.number (sym is ∙ t)),
      λ e. is ∙ eq-eqb own.number known.number (same ∙ same_Some (number_of name).number known.number e),
    )

-- a name that has a number of its own is told by it
number_tells : (o : Option (List ℕ)) (known : ElementName) (lower : List ℕ) → known ≡ number_of lower → (known.number ≡ 159 → ⊥)
    → option_map (λ name. (number_of name).number) o ≡ Some known.number → o ≡ Some lower
number_tells None known lower is own e = absurd (none-some known.number e)
number_tells (Some name) known lower is own e =
    let among : is_among element_names lower ≡ true = elim (cases_Bool (is_among element_names lower)) as (λ _. is_among element_names lower ≡ true) [
      | inl listed ↦ listed
      | inr other ↦ absurd (own (ap (λ (e : ElementName). e.number) (is ∙ sym (name_of_other lower other))))
    ] in
    let same : (number_of name).number ≡ (number_of lower).number =
    same_Some (number_of name).number known.number e ∙ ap (λ (e : ElementName). e.number) is in
    let alike : bytes_eq lower name ≡ true = sym (same_number lower name among) ∙ eq-eqb (number_of name).number (number_of lower).number same in
    ap (λ (own : List ℕ). Some own) (sym ((bytes_eq-Decides lower name).0 alike))

spelled_lower : (is_html : Bool) (name : s.Ident) → name.lower ≡ name.written → spelled is_html name ≡ name.lower
spelled_lower true name same = refl
spelled_lower false name same = sym same

element_named : (o : Option Node) (name : List ℕ) → option_and_then name_of o ≡ Some name → IsSomeAnd o (λ node. IsSome (name_of node))
element_named None name e = absurd (none-some name e)
element_named (Some node) name e = ap (λ (o : Option (List ℕ)). is_some o) e

some_numbered : (o : Option (List ℕ)) (k : ℕ) → option_map (λ name. (number_of name).number) o ≡ Some k → is_some o ≡ true
some_numbered None k e = absurd (none-some k e)
some_numbered (Some name) k e = refl

element_numbered : (o : Option Node) (k : ℕ) → option_map (λ name. (number_of name).number) (option_and_then name_of o) ≡ Some k → IsSomeAnd o (λ node. IsSome (name_of node))
element_numbered None k e = absurd (none-some k e)
element_numbered (Some node) k e = some_numbered (name_of node) k e

pub known_is : (page : Page) (n : ℕ) (name : s.Ident) (known : ElementName) → known ≡ number_of name.lower → (known.number ≡ 159 → ⊥) → name.lower ≡ name.written
    → Holds page (s.Is (s.Name name)) n ↔ HasNameNumber page known n
known_is page n name known is own same =
    let o = option_and_then name_of (node_at page.rows n) in
    let lower : spelled (is_html_at page n) name ≡ name.lower = spelled_lower (is_html_at page n) name same in
    let forward : o ≡ Some (spelled (is_html_at page n) name) → HasNameNumber page known n = λ named.
    ap (λ (o : Option (List ℕ)). option_map (λ (own : List ℕ). (number_of own).number) o) (named ∙ ap (λ (own : List ℕ). Some own) lower)
    ∙ ap (λ (e : ElementName). Some e.number) (sym is) in
    let back : HasNameNumber page known n → o ≡ Some name.lower = λ h. number_tells o known name.lower is own h in (
      λ h. forward h.1,
      λ h. (element_named (node_at page.rows n) name.lower (back h), back h ∙ ap (λ (own : List ℕ). Some own) (sym lower)),
    )

pub name_seen : (page : Page) (n : ℕ) (name : s.Ident) (known : ElementName) → known ≡ number_of name.lower → Holds page (s.Is (s.Name name)) n
    → IsSeen page (l.Name known) n
name_seen page n name known is h = (name, is, h.1)

-- What is seen of elements

element_valued : (o : Option Node) (key : List ℕ) (P : List ℕ → Type 0) → IsSomeAnd (value_of key (unwrap_or (option_map attributes_of o) [])) P
    → IsSomeAnd o (λ node. IsSome (name_of node))
element_valued None key P h = absurd h
element_valued (Some (an_element tag)) key P h = refl
element_valued (Some contents) key P h = absurd h
element_valued (Some (a_text bytes)) key P h = absurd h
element_valued (Some (a_comment bytes)) key P h = absurd h
element_valued (Some (a_doctype own)) key P h = absurd h

pub seen_element : (page : Page) (look : Look) (n : ℕ) → is_of_elements look ≡ true → IsSeen page look n → IsElement page n
seen_element page (l.Known known) n e h = element_numbered (node_at page.rows n) known.number h
seen_element page (l.Name known) n e h = element_named (node_at page.rows n) (spelled (is_html_at page n) h.0) h.2
seen_element page (l.Value key len) n e h = element_valued (node_at page.rows n) key.now (λ own. len ≤ length own) h
seen_element page (l.Id id) n e h = h.0
seen_element page (l.Class class) n e h = h.0
seen_element page (l.Key key) n e h = h.0
seen_element page l.Element n e h = h
seen_element page (l.Mark marks) n e h = absurd (false≢true e)

pub element_isnt_contents : (o : Option Node) → option_map_or is_element o false ≡ true → o ≡ Some contents → ⊥
element_isnt_contents o is here = false≢true (sym (ap (λ (o : Option Node). option_map_or is_element o false) here) ∙ is)

-- Holding there

-- a test that is another one passes where that does
pub as_test : (page : Page) (t u : s.Test) (n : ℕ) → t ≡ u → Holds page (s.Is t) n → Holds page (s.Is u) n
as_test page t u n is h = subst (λ (u : s.Test). Holds page (s.Is u) n) is h

by_case : (page : Page) (op : Op) (value key : List ℕ) (n : ℕ) (a b : Bool) → a ≡ b
    → HasValue page (PassesBy a op value) key n → HasValue page (PassesBy b op value) key n
by_case page op value key n a b is h = subst (λ (folds : Bool). HasValue page (PassesBy folds op value) key n) is h

module _ (page : Page) (t : s.Test) (n : ℕ) where
  pub id_long : (id : List ℕ) → t ≡ s.Id id → Holds page (s.Is t) n → HasValue page (λ own. length id ≤ length own) (codes "id") n
  id_long id is h =
      weaker (PassesBy page.is_quirks Equals id) (λ own. length id ≤ length own) (value_of (codes "id") (attributes_at page.rows n))
      (long_enough page.is_quirks Equals id) (as_test page t (s.Id id) n is h).1

  pub class_long : (class : List ℕ) → t ≡ s.Class class → Holds page (s.Is t) n → HasValue page (λ own. length class ≤ length own) (codes "class") n
  class_long class is h =
      weaker (PassesBy page.is_quirks Word class) (λ own. length class ≤ length own) (value_of (codes "class") (attributes_at page.rows n))
      (long_enough page.is_quirks Word class) (as_test page t (s.Class class) n is h).1

  pub id_is : (id : List ℕ) → t ≡ s.Id id → page.is_quirks ≡ false
      → Holds page (s.Is t) n ↔ (IsElement page n × HasValue page (λ own. own ≡ id) (codes "id") n)
  id_is id is exact = (
    λ h. (let own = as_test page t (s.Id id) n is h in (own.0, by_case page Equals id (codes "id") n page.is_quirks false exact own.1)),
    λ h. as_test page (s.Id id) t n (sym is) (h.0, by_case page Equals id (codes "id") n false page.is_quirks (sym exact) h.1),
  )

  pub class_is : (class : List ℕ) → t ≡ s.Class class → page.is_quirks ≡ false
      → Holds page (s.Is t) n ↔ (IsElement page n × HasValue page (Passes Word class) (codes "class") n)
  class_is class is exact = (
    λ h. (let own = as_test page t (s.Class class) n is h in (own.0, by_case page Word class (codes "class") n page.is_quirks false exact own.1)),
    λ h. as_test page (s.Class class) t n (sym is) (h.0, by_case page Word class (codes "class") n false page.is_quirks (sym exact) h.1),
  )

  pub key_is : (key : s.Ident) → t ≡ s.Key Bare key
      → Holds page (s.Is t) n ↔ (IsElement page n × HasValue page (λ own. ⊤) (spelled (is_html_at page n) key) n)
  key_is key is = (λ h. as_test page t (s.Key Bare key) n is h, λ h. as_test page (s.Key Bare key) t n (sym is) h)

  pub value_seen : (key : s.Ident) (op : Op) (value : List ℕ) (case : Case) → t ≡ s.Value Bare key op value case → Holds page (s.Is t) n
      → IsElement page n × HasValue page (λ own. ⊤) (spelled (is_html_at page n) key) n
  value_seen key op value case is h =
      let own = as_test page t (s.Value Bare key op value case) n is h in
      (own.0, weaker (PassesBy (s.folds_by case (folds_at page key.lower n)) op value) (λ own. ⊤) (value_of (spelled (is_html_at page n) key) (attributes_at page.rows n)) (λ own p. tt) own.1)

-- the first test of a compound that passes
pub first_passes : (page : Page) (n : ℕ) (steps : List Step) (t : Test) → Some t ≡ first_test steps → Holds page (s.Is (test t)) n → HoldBelow page steps n 1
first_passes page n steps t is h zero lt = subst (λ (o : Option Test). IfSome o (λ (t : Test). Holds page (s.Is (test t)) n)) is h
first_passes page n steps t is h (suc k) lt = absurd (omega (arith, lt))

-- it passes where the compound holds
pub first_holds : (page : Page) (n : ℕ) (steps : List Step) (t : Test) → IsCompound steps → Some t ≡ first_test steps → Holds page (selector_of steps) n
    → Holds page (s.Is (test t)) n
first_holds page n steps t c is h = subst (λ (o : Option Test). IfSome o (λ (t : Test). Holds page (s.Is (test t)) n)) (sym is) ((all_hold page n steps c).0 h 0)

-- a compound holds where the tests from a place on pass, and those before it do
pub rest_holds : (page : Page) (n : ℕ) (steps : List Step) (from : ℕ) → IsCompound steps → HoldBelow page steps n from
    → HoldFrom page steps from n ↔ Holds page (selector_of steps) n
rest_holds page n steps from c below = (
  λ h. (all_hold page n steps c).1 (λ k. elim (cases_lt k from) as (λ _. HoldsAt page steps k n) [
    | inl lt ↦ below k lt
    | inr ge ↦ h k ge
  ]),
  λ h k ge. (all_hold page n steps c).0 h k,
)

-- tests that a look answers
pub asked_hold : (page : Page) (n : ℕ) (steps : List Step) (passes : Bool) → (passes ≡ true → HoldBelow page steps n 1) → HoldBelow page steps n (one_if passes)
asked_hold page n steps true h = h refl
asked_hold page n steps false h = λ k lt. absurd (omega (arith, lt))

-- what holds where another thing does
pub ok_like : {A : Type 0} (r : Result Bool A) (P Q : Type 0) → P ↔ Q → IfOk r (λ b. (b ≡ true) ↔ P) → IfOk r (λ b. (b ≡ true) ↔ Q)
ok_like (Ok b) P Q e h = (λ t. e.0 (h.0 t), λ q. h.1 (e.1 q))
ok_like (Err x) P Q e h = tt
