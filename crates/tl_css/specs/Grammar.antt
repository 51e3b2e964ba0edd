-- The grammar of selectors, as Selectors 4 has it: which texts are which selector.
-- `Stands sort s e rest` says that at the front of s stands something of that sort, which is the
-- selector e, and that rest stands after it.
use Rattle.std.specs.Prelude.{◌≡◌, ℕ, Bool, true, false, List, [], ◌∷◌, Some}
use Rattle.std.specs.Str.{byte}
use Rattle.tl_css.specs.declared.selector.Link.TheVariants.{Sibling}
use Rattle.tl_css.specs.declared.selector.Way.TheVariants.{From, To}
use Rattle.tl_css.specs.declared.text.role.Role.{Role}
use Rattle.tl_css.specs.declared.text.role.Role.TheVariants.{Top, Is as IsRole, Not as NotRole, Has, NthOf}
use Rattle.tl_css.specs.declared.text.role.Combinator.{Combinator}
use Rattle.tl_css.specs.declared.text.role.Combinator.TheVariants.{Descendant}
use Rattle.tl_css.specs.Selector.{Css, Not, Both, Either, At, Nth}
use Rattle.tl_css.specs.Lexical.{past_comments}
use Rattle.tl_css.specs.SimpleGrammar.{GapStands, SimpleStands, ListBegins}
use Rattle.tl_css.specs.Item.{combinator_of, is_relative}
use Rattle.tl_css.specs.Reading.{link_of, reach_of}

-- a combinator between two compounds, and the gaps around it
pub data CombinatorStands : List ℕ → Combinator → List ℕ → Type 0 where
  marked : {s m rest : List ℕ} {b : ℕ} {v w : Bool} {c : Combinator} → GapStands s v (b ∷ m)
      → combinator_of b ≡ Some c → GapStands m w rest → CombinatorStands s c rest
  spaced : {s rest : List ℕ} → GapStands s true rest → CombinatorStands s Descendant rest

-- a combinator in front of a relative selector, or none, and the gaps around it
pub data LeadStands : List ℕ → Combinator → List ℕ → Type 0 where
  lead : {s m rest : List ℕ} {b : ℕ} {v w : Bool} {c : Combinator} → GapStands s v (b ∷ m)
      → combinator_of b ≡ Some c → GapStands m w rest → LeadStands s c rest
  no_lead : {s rest : List ℕ} {w : Bool} → GapStands s w rest → LeadStands s Descendant rest

-- what a pseudo-class makes of its list
abbrev pub role_of : Role → Css → Css
role_of Top e = e
role_of IsRole e = e
role_of NotRole e = Not e
role_of Has e = e
role_of (NthOf way formula) e = Nth way Sibling formula e

pub data Sort : Type 0 where
  -- a simple selector; `true`: one that a compound may begin with
  Part : Bool → Sort
  -- simple selectors side by side
  Compound : Sort
  -- compounds with combinators between: the first one, and where the others are seen from it
  Tail : Sort
  -- a complex selector; `true`: a relative one
  Complex : Bool → Sort
  -- such selectors, with commas between
  Complexes : Bool → Sort

pub data Stands : Sort → List ℕ → Css → List ℕ → Type 0 where
  whole : {first : Bool} {s rest : List ℕ} {e : Css} → SimpleStands first s e rest
      → Stands (Part first) s e rest
  list : {first w : Bool} {s m k rest : List ℕ} {role : Role} {e : Css}
      → ListBegins (past_comments s) role m → Stands (Complexes (is_relative role)) m e k
      → GapStands k w (byte ")" ∷ rest)
      → Stands (Part first) (byte ":" ∷ s) (role_of role e) rest
  compound_first : {s rest : List ℕ} {e : Css} → Stands (Part true) s e rest
      → Stands Compound s e rest
  compound_next : {s m n rest : List ℕ} {a b : Css} → Stands Compound s a m → GapStands m false n
      → Stands (Part false) n b rest → Stands Compound s (Both a b) rest
  tail_last : {s rest : List ℕ} {e : Css} → Stands Compound s e rest → Stands Tail s e rest
  tail_next : {s m n rest : List ℕ} {a b : Css} {c : Combinator} → Stands Compound s a m
      → CombinatorStands m c n → Stands Tail n b rest
      → Stands Tail s (Both a (At To (link_of c) (reach_of c) b)) rest
  complex_first : {s m rest : List ℕ} {e : Css} {w : Bool} → GapStands s w m
      → Stands (Part true) m e rest → Stands (Complex false) s e rest
  complex_next : {s m n rest : List ℕ} {a b : Css} → Stands (Complex false) s a m
      → GapStands m false n → Stands (Part false) n b rest
      → Stands (Complex false) s (Both a b) rest
  complex_joined : {s m n rest : List ℕ} {a b : Css} {c : Combinator}
      → Stands (Complex false) s a m → CombinatorStands m c n → Stands (Part true) n b rest
      → Stands (Complex false) s (Both (At From (link_of c) (reach_of c) a) b) rest
  relative_complex : {s m rest : List ℕ} {e : Css} {c : Combinator} → LeadStands s c m
      → Stands Tail m e rest → Stands (Complex true) s (At To (link_of c) (reach_of c) e) rest
  list_first : {r : Bool} {s rest : List ℕ} {e : Css} → Stands (Complex r) s e rest
      → Stands (Complexes r) s e rest
  list_next : {r w : Bool} {s k m rest : List ℕ} {a b : Css} → Stands (Complexes r) s a k
      → GapStands k w (byte "," ∷ m) → Stands (Complex r) m b rest
      → Stands (Complexes r) s (Either a b) rest

-- the text is this selector: a list of complex selectors, and then a gap up to its end
pub record IsSelector (text : List ℕ) (e : Css) : Type 0 where
  pub rest : List ℕ
  pub white : Bool
  pub list : Stands (Complexes false) text e rest
  pub end : GapStands rest white []
