-- What tokens allow of trees, as parameters: of this each rule of tree construction makes its trees. And nodes of which all is allowed.
use Rattle.std.proofs.Common.{◌≡◌, ◌≤◌, ℕ, Bool, true, false, List, [], ◌∷◌, ◌++◌, ◌⊎◌, codes, refl, inl, inr, Option, Some, None}
use Rattle.std.specs.Prelude.{⊤}
use Rattle.std.proofs.lemmas.Bool.{cond_both}
use Rattle.tl_html_spec.specs.HtmlTokenizer.{State, data_state, replacement}
use Rattle.tl_html_spec.specs.Sound.{IsSome}
use Rattle.tl_dom_spec.specs.Tags.{Attribute, Tag, bare_tag, is_any}
use Rattle.tl_html_spec.specs.Doctypes.{Doctype}
use Rattle.tl_dom_spec.specs.Marks.{Marked}
use Rattle.tl_dom_spec.specs.Path.{Nodes, and_comment, and_doctype, and_element, and_text, at_head, joined, no_nodes, with_text}
use Rattle.tl_dom_spec.specs.Builder.{with_more}

abbrev pub Each : {X : Type 0} → (X → Type 0) → List X → Type 0
Each P [] = ⊤
Each P (x ∷ xs) = P x × Each P xs

abbrev pub IfSome : {X : Type 0} → (X → Type 0) → Option X → Type 0
IfSome P None = ⊤
IfSome P (Some x) = P x

pub record Allowed : Type 1 where
  -- tags of elements that may be opened, and of those that may stand with nothing below them
  pub Opens : Tag → Type 0
  pub Stands : Tag → Type 0
  -- characters of texts, comments, doctypes
  pub Says : ℕ → Type 0
  pub Notes : Marked (List ℕ) → Type 0
  pub Types : Marked Doctype → Type 0
  -- how many marks may stand before a text
  pub Gaps : ℕ → Type 0
  -- attributes that a start tag of `html` or `body` may add
  pub Adds : List Attribute → Type 0
  -- states that the tokenizer may be set to
  pub Reads : State → Type 0
  -- context elements, in fragments
  pub Around : Tag → Type 0
  -- whether scripting is on
  pub Scripts : Bool → Type 0
  -- by how many the elements that were put in may be more than four for each token
  pub Exceeds : ℕ → Type 0
  -- whether each tag stands in the group of its name, so that none of a table or a template is listed as active
  pub Grouped : Type 0
  -- whether it is asked of texts that none is empty, and none stands right beside another one
  pub Whole : Type 0
  pub stands : (t : Tag) → Opens t → Stands t
  pub headed : (t : Tag) → is_any (codes "head") t ≡ true → Stands t → Opens t
  pub adds : (t : Tag) (more : List Attribute) → Opens t → Adds more → Opens (with_more more t)
  pub grows : (n m : ℕ) → n ≤ m → Exceeds n → Exceeds m
  -- elements that the standard puts in
  pub html : Opens (bare_tag (codes "html"))
  pub head : Opens (bare_tag (codes "head"))
  pub body : Opens (bare_tag (codes "body"))
  pub paragraph : Opens (bare_tag (codes "p"))
  pub column_group : Opens (bare_tag (codes "colgroup"))
  pub table_body : Opens (bare_tag (codes "tbody"))
  pub row : Opens (bare_tag (codes "tr"))
  pub line_break : Stands (bare_tag (codes "br"))
  pub replaced : Each Says replacement
  pub data_read : Reads data_state

abbrev pub ends_with_text : Nodes → Bool
ends_with_text (and_text nodes bytes) = true
ends_with_text _ = false

some_append : (w v : List ℕ) → IsSome w → IsSome (w ++ v)
some_append [] v h = absurd h
some_append (b ∷ w) v h = tt

pub each_append : {X : Type 0} → (P : X → Type 0) (w v : List X) → Each P w → Each P v → Each P (w ++ v)
each_append P [] v h k = k
each_append P (b ∷ w) v h k = (h.0, each_append P w v h.1 k)

module _ (R : Allowed) where
  abbrev pub AreWords : List ℕ → Type 0
  AreWords bytes = (R.Whole → IsSome bytes) × Each R.Says bytes

  abbrev pub IsText : Marked (List ℕ) → Type 0
  IsText own = AreWords own.said × R.Gaps own.source

  abbrev pub Good : Nodes → Type 0
  Good no_nodes = ⊤
  Good (and_text nodes bytes) = IsText bytes × (R.Whole → ends_with_text nodes ≡ false) × Good nodes
  Good (and_comment nodes bytes) = R.Notes bytes × Good nodes
  Good (and_doctype nodes own) = R.Types own × Good nodes
  Good (and_element nodes tag children) = ((R.Opens tag × Good children) ⊎ (R.Stands tag × (children ≡ no_nodes))) × Good nodes

  with_text-Good : (nodes : Nodes) (bytes : Marked (List ℕ)) → Good nodes → IsText bytes → Good (with_text nodes bytes)
  with_text-Good no_nodes bytes g h = (h, (λ _. refl), tt)
  with_text-Good (and_text nodes own) bytes g h =
      (((λ w. some_append own.said bytes.said (g.0.0.0 w), each_append R.Says own.said bytes.said g.0.0.1 h.0.1), g.0.1), g.1, g.2)
  with_text-Good (and_comment nodes own) bytes g h = (h, (λ _. refl), g)
  with_text-Good (and_doctype nodes own) bytes g h = (h, (λ _. refl), g)
  with_text-Good (and_element nodes tag children) bytes g h = (h, (λ _. refl), g)

  pub joined-Good : (nodes more : Nodes) → Good nodes → Good more → Good (joined nodes more)
  joined-Good nodes no_nodes g h = g
  joined-Good nodes (and_text more bytes) g h = with_text-Good (joined nodes more) bytes (joined-Good nodes more g h.2) h.0
  joined-Good nodes (and_comment more bytes) g h = (h.0, joined-Good nodes more g h.1)
  joined-Good nodes (and_doctype more own) g h = (h.0, joined-Good nodes more g h.1)
  joined-Good nodes (and_element more tag children) g h = (h.0, joined-Good nodes more g h.1)

  pub element-Good : (tag : Tag) (children : Nodes) → R.Opens tag → Good children → Good (and_element no_nodes tag children)
  element-Good tag children o g = (inl (o, g), tt)

  pub alone-Good : (tag : Tag) → R.Stands tag → Good (and_element no_nodes tag no_nodes)
  alone-Good tag s = (inr (s, refl), tt)

  at_head-ends : (nodes new : Nodes) → ends_with_text nodes ≡ false → ends_with_text (at_head nodes new) ≡ false
  at_head-ends no_nodes new h = refl
  at_head-ends (and_text nodes bytes) new h = h
  at_head-ends (and_comment nodes bytes) new h = refl
  at_head-ends (and_doctype nodes own) new h = refl
  at_head-ends (and_element nodes tag children) new h =
      cond_both (is_any (codes "head") tag) _ _ (λ x. ends_with_text x ≡ false) (λ _. refl) (λ _. refl)

  head_opens : (tag : Tag) (children : Nodes) → is_any (codes "head") tag ≡ true →
      (R.Opens tag × Good children) ⊎ (R.Stands tag × (children ≡ no_nodes)) → R.Opens tag × Good children
  head_opens tag children e (inl o) = o
  head_opens tag children e (inr s) = (R.headed tag e s.0, rw s.1 tt)

  pub at_head-Good : (nodes new : Nodes) → Good nodes → Good new → Good (at_head nodes new)
  at_head-Good no_nodes new g h = tt
  at_head-Good (and_text nodes bytes) new g h = (g.0, (λ w. at_head-ends nodes new (g.1 w)), at_head-Good nodes new g.2 h)
  at_head-Good (and_comment nodes bytes) new g h = (g.0, at_head-Good nodes new g.1 h)
  at_head-Good (and_doctype nodes own) new g h = (g.0, at_head-Good nodes new g.1 h)
  at_head-Good (and_element nodes tag children) new g h =
      cond_both (is_any (codes "head") tag) _ _ Good
      (λ e. let o = head_opens tag children e g.0 in (inl (o.0, joined-Good children new o.1 h), g.1))
      (λ _. (g.0, at_head-Good nodes new g.1 h))
