-- Simple selectors by cases: a type, an id, a class, an attribute, a pseudo-class. `rest` is what
-- stands after one.
use Rattle.std.specs.Prelude.{◌≡◌, ◌==◌, ℕ, Bool, true, false, List, [], ◌∷◌, Option, Some, None, codes, Ok}
use Rattle.std.specs.Str.{byte, str_to_ascii_lowercase}
use Rattle.tl_spec.specs.Lex.ByteClass.{is_quote}
use Rattle.tl_css.specs.declared.selector.Anchor.{Anchor}
use Rattle.tl_css.specs.declared.selector.Anchor.TheVariants.{Scope}
use Rattle.tl_css.specs.declared.selector.Formula.{Formula}
use Rattle.tl_css.specs.declared.selector.Link.{Link}
use Rattle.tl_css.specs.declared.selector.Link.TheVariants.{Sibling}
use Rattle.tl_css.specs.declared.selector.Case.{Case}
use Rattle.tl_css.specs.declared.selector.Case.TheVariants.{Unsaid, Folded, Exact}
use Rattle.tl_css.specs.declared.selector.Op.{Op}
use Rattle.tl_css.specs.declared.selector.Space.{Space}
use Rattle.tl_css.specs.declared.selector.Space.TheVariants.{Bare, Every}
use Rattle.tl_css.specs.declared.selector.Way.{Way}
use Rattle.tl_css.specs.declared.text.role.Role.{Role}
use Rattle.tl_css.specs.declared.text.role.Role.TheVariants.{NthOf}
use Rattle.tl_css.specs.declared.text.role.PseudoClass.TheVariants as p
use Rattle.tl_css.specs.Selector.{ident_of, Test, Any, Name, Id, Class, Key, Value, Empty, Css, Is, Nth}
use Rattle.tl_css.specs.Lexical.{run_at, begins, begins_name, name_at, gap_at, past_comments}
use Rattle.tl_css.specs.Attribute.{op_at}
use Rattle.tl_css.specs.Formula.{formula_at}
use Rattle.tl_css.specs.PseudoClass.{edge, nowhere, only, outermost, pseudo_class, begins_argument}

-- white space and comments, or nothing; whether there is white space
abbrev pub GapStands : List ℕ → Bool → List ℕ → Type 0
GapStands s white rest = gap_at s ≡ Ok (white, rest)

-- a name, and what it says
abbrev pub NameStands : List ℕ → List ℕ → List ℕ → Type 0
NameStands s name rest = name_at s ≡ Ok (name, rest)

-- a name in lower case
pub data WordStands : List ℕ → List ℕ → List ℕ → Type 0 where
  word : {s name rest : List ℕ} → NameStands s name rest
      → WordStands s (str_to_ascii_lowercase name) rest

-- a name, or what stands between two of the same quotes
pub data ValueStands : List ℕ → List ℕ → List ℕ → Type 0 where
  bare : {s value rest : List ℕ} → NameStands s value rest → ValueStands s value rest
  quoted : {q : ℕ} {s value rest : List ℕ} → is_quote q ≡ true
      → run_at (Some q) s ≡ (value, q ∷ rest) → ValueStands (q ∷ s) value rest

-- a flag, or none: how case counts
pub data FlagStands : List ℕ → Case → List ℕ → Type 0 where
  no_flag : {s : List ℕ} → begins_name s ≡ false → FlagStands s Unsaid s
  folds : {s rest : List ℕ} → WordStands s (codes "i") rest → FlagStands s Folded rest
  exact : {s rest : List ℕ} → WordStands s (codes "s") rest → FlagStands s Exact rest

-- a key: a name in no namespace, with `|` before it or without, or with `*|` in any
pub data KeyStands : List ℕ → Space → List ℕ → List ℕ → Type 0 where
  plain_key : {s key rest : List ℕ} → NameStands s key rest → KeyStands s Bare key rest
  bare_space : {s key rest : List ℕ} → NameStands (past_comments s) key rest
      → KeyStands (byte "|" ∷ s) Bare key rest
  every_space : {s a key rest : List ℕ} → past_comments s ≡ byte "|" ∷ a
      → NameStands (past_comments a) key rest → KeyStands (byte "*" ∷ s) Every key rest

-- an attribute selector, after its `[`
pub data AttributeStands : List ℕ → Test → List ℕ → Type 0 where
  key : {s a b rest key : List ℕ} {v w : Bool} {space : Space} → GapStands s v a
      → KeyStands a space key b → GapStands b w (byte "]" ∷ rest)
      → AttributeStands s (Key space (ident_of key)) rest
  value : {s a b c d e f g h rest key own : List ℕ} {t u v w : Bool} {space : Space} {op : Op}
      {case : Case} → GapStands s t a → KeyStands a space key b → GapStands b u c
      → op_at c ≡ Ok (op, d) → GapStands d v e → ValueStands e own f → GapStands f w g
      → FlagStands g case h → (x : Bool) → GapStands h x (byte "]" ∷ rest)
      → AttributeStands s (Value space (ident_of key) op own case) rest

-- a pseudo-class that has no list, after its `:`
pub data PseudoStands : List ℕ → Css → List ℕ → Type 0 where
  edge_class : {s word rest : List ℕ} {way : Way} {link : Link} → WordStands s word rest
      → pseudo_class word ≡ Some (p.Edge way link) → begins_argument rest ≡ false
      → PseudoStands s (edge way link) rest
  only_class : {s word rest : List ℕ} {link : Link} → WordStands s word rest
      → pseudo_class word ≡ Some (p.Only link) → begins_argument rest ≡ false
      → PseudoStands s (only link) rest
  anchor_class : {s word rest : List ℕ} {anchor : Anchor} → WordStands s word rest
      → pseudo_class word ≡ Some (p.Outermost anchor) → begins_argument rest ≡ false
      → PseudoStands s (outermost anchor) rest
  empty_class : {s word rest : List ℕ} → WordStands s word rest
      → pseudo_class word ≡ Some p.Empty → begins_argument rest ≡ false
      → PseudoStands s (Is Empty) rest
  nth_class : {s word a b c rest : List ℕ} {v w : Bool} {way : Way} {link : Link}
      {formula : Formula} → WordStands s word (byte "(" ∷ a)
      → pseudo_class word ≡ Some (p.Nth way link) → GapStands a v b
      → formula_at b ≡ Ok (formula, c) → GapStands c w (byte ")" ∷ rest)
      → PseudoStands s (Nth way link formula (Is Any)) rest

-- a pseudo-class up to its list of selectors, after its `:`
pub data ListBegins : List ℕ → Role → List ℕ → Type 0 where
  list_class : {s word rest : List ℕ} {role : Role} → WordStands s word (byte "(" ∷ rest)
      → pseudo_class word ≡ Some (p.List role) → ListBegins s role rest
  of_class : {s word a b c d rest : List ℕ} {v : Bool} {way : Way} {formula : Formula}
      → WordStands s word (byte "(" ∷ a) → pseudo_class word ≡ Some (p.Nth way Sibling)
      → GapStands a v b → formula_at b ≡ Ok (formula, c) → GapStands c true d
      → WordStands d (codes "of") rest → ListBegins s (NthOf way formula) rest

-- a type in a namespace: `*`, or a name
pub data TypeStands : List ℕ → Test → List ℕ → Type 0 where
  any_type : {s : List ℕ} → TypeStands (byte "*" ∷ s) Any s
  named_type : {s name rest : List ℕ} → NameStands s name rest
      → TypeStands s (Name (ident_of name)) rest

-- the `|` of a namespace stands first
abbrev pub begins_bar : List ℕ → Bool
begins_bar s = begins (λ b. b == byte "|") s

-- a simple selector that has no list; `true`: one that a compound may begin with, a type too. A `*`
-- before a `|` is any namespace; before it nothing stands for none, which holds nowhere. After each
-- mark but `#` comments may stand, as CSS Syntax drops them: `#` and its name are one token there
pub data SimpleStands : Bool → List ℕ → Css → List ℕ → Type 0 where
  any : {s : List ℕ} → begins_bar (past_comments s) ≡ false
      → SimpleStands true (byte "*" ∷ s) (Is Any) s
  type : {s name rest : List ℕ} → NameStands s name rest
      → SimpleStands true s (Is (Name (ident_of name))) rest
  every_type : {s a rest : List ℕ} {test : Test} → past_comments s ≡ byte "|" ∷ a
      → TypeStands (past_comments a) test rest
      → SimpleStands true (byte "*" ∷ s) (Is test) rest
  bare_type : {s rest : List ℕ} {test : Test} → TypeStands (past_comments s) test rest
      → SimpleStands true (byte "|" ∷ s) nowhere rest
  nesting : {first : Bool} {s : List ℕ}
      → SimpleStands first (byte "&" ∷ s) (outermost Scope) s
  id : {first : Bool} {s name rest : List ℕ} → NameStands s name rest
      → SimpleStands first (byte "#" ∷ s) (Is (Id name)) rest
  class : {first : Bool} {s name rest : List ℕ} → NameStands (past_comments s) name rest
      → SimpleStands first (byte "." ∷ s) (Is (Class name)) rest
  attribute : {first : Bool} {s rest : List ℕ} {test : Test} → AttributeStands s test rest
      → SimpleStands first (byte "[" ∷ s) (Is test) rest
  pseudo : {first : Bool} {s rest : List ℕ} {e : Css} → PseudoStands (past_comments s) e rest
      → SimpleStands first (byte ":" ∷ s) e rest
