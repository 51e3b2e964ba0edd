-- A pseudo-class opens no list of the top.
use Rattle.std.proofs.Common.{◌≡◌, ℕ, List, [], ◌∷◌, length, Bool, true, false, ◌&&◌, ◌==◌, Option, Some, None, Ok, Err, IfSome, refl, subst, codes, bytes_eq}
use Rattle.std.specs.Prelude.{if◌then◌else◌, IfOk}
use Rattle.std.specs.Str.{byte}
use Rattle.tl_spec.proofs.Lex.Shrinks.{if_both}
use Rattle.tl_css.specs.declared.selector.Formula.{Formula}
use Rattle.tl_css.specs.declared.selector.Link.{Link}
use Rattle.tl_css.specs.declared.selector.Way.{Way}
use Rattle.tl_css.specs.declared.text.role.Role.{Role}
use Rattle.tl_css.specs.declared.text.role.PseudoClass.{PseudoClass}
use Rattle.tl_css.specs.declared.text.role.PseudoClass.TheVariants as p
use Rattle.tl_css.specs.Selector.{Css}
use Rattle.tl_css.specs.Read.{Read, ◌>>=◌, after_byte}
use Rattle.tl_css.specs.Lexical.{begins, begins_name, name_at, lower_run, is_word, gap_at, past_comments}
use Rattle.tl_css.specs.Formula.{formula_at}
use Rattle.tl_css.specs.Attribute.{attribute_at}
use Rattle.tl_css.specs.PseudoClass.{Simple, Whole, Opens, plain_class, nth_class, list_class, or_else, pseudo_class, begins_argument, whole_at, is_sibling, after_formula, nth_at, argument_at, class_at, class_by, pseudo_at}
use Rattle.tl_css.specs.Item.{simple_at, star_by, type_at, first_at, is_top}
use Rattle.tl_css.proofs.Leaf.{simple_by, SimpleReads}

-- what is read has this property, if it is read
abbrev pub Gives : {A : Type 0} → (A → Type 0) → Read A → Type 0
Gives P r = IfOk r (λ p. P p.0)

pub given : {A : Type 0} (P : A → Type 0) (r : Read A) (x : A) (s : List ℕ) → Gives P r → r ≡ Ok (x, s) → P x
given P r x s h e = subst (λ (r : Read _). Gives P r) e h

-- after a part, whatever it is
pub bound : {A B : Type 0} (P : B → Type 0) (r : Read A) (f : A × List ℕ → Read B) → ((p : A × List ℕ) → Gives P (f p)) → Gives P (r >>= f)
bound P (Ok p) f h = h p
bound P (Err w) f h = tt

abbrev IsInner : Simple → Type 0
IsInner (Whole e) = Unit {0}
IsInner (Opens role left) = is_top role ≡ false

abbrev OpensInner : PseudoClass → Type 0
OpensInner (p.Edge way link) = Unit {0}
OpensInner (p.Only link) = Unit {0}
OpensInner (p.Outermost anchor) = Unit {0}
OpensInner p.Empty = Unit {0}
OpensInner (p.List role) = is_top role ≡ false
OpensInner (p.Nth way link) = Unit {0}

abbrev MayOpen : Option PseudoClass → Type 0
MayOpen o = IfSome o OpensInner

one_of : (b : Bool) (x : PseudoClass) (o : Option PseudoClass) → OpensInner x → MayOpen o → MayOpen (if b then Some x else o)
one_of true x o h more = h
one_of false x o h more = more

plain_opens : (word : List ℕ) → MayOpen (plain_class word)
plain_opens word =
    one_of (bytes_eq word (codes "first-child")) _ _ tt
    (one_of (bytes_eq word (codes "last-child")) _ _ tt
    (one_of (bytes_eq word (codes "only-child")) _ _ tt
    (one_of (bytes_eq word (codes "first-of-type")) _ _ tt
    (one_of (bytes_eq word (codes "last-of-type")) _ _ tt
    (one_of (bytes_eq word (codes "only-of-type")) _ _ tt
    (one_of (bytes_eq word (codes "root")) _ _ tt
    (one_of (bytes_eq word (codes "scope")) _ _ tt
    (one_of (bytes_eq word (codes "empty")) _ None tt tt))))))))

nth_opens : (word : List ℕ) → MayOpen (nth_class word)
nth_opens word =
    one_of (bytes_eq word (codes "nth-child")) _ _ tt
    (one_of (bytes_eq word (codes "nth-last-child")) _ _ tt
    (one_of (bytes_eq word (codes "nth-of-type")) _ _ tt
    (one_of (bytes_eq word (codes "nth-last-of-type")) _ None tt tt)))

list_opens : (word : List ℕ) → MayOpen (list_class word)
list_opens word =
    one_of (bytes_eq word (codes "not")) _ _ refl
    (one_of (bytes_eq word (codes "is")) _ _ refl
    (one_of (bytes_eq word (codes "where")) _ _ refl
    (one_of (bytes_eq word (codes "has")) _ None refl tt)))

or_opens : (a b : Option PseudoClass) → MayOpen a → MayOpen b → MayOpen (or_else a b)
or_opens None b p q = q
or_opens (Some x) b p q = p

class_opens : (word : List ℕ) → MayOpen (pseudo_class word)
class_opens word = or_opens (plain_class word) _ (plain_opens word) (or_opens (nth_class word) (list_class word) (nth_opens word) (list_opens word))

abbrev Fine : Read Simple → Type 0
Fine r = Gives IsInner r

whole_inner : (e : Css) (s : List ℕ) → Fine (whole_at e s)
whole_inner e s = if_both Fine (begins_argument s) _ _ (λ _. tt) (λ _. tt)

after_formula_inner : (opened : ℕ) (way : Way) (link : Link) (formula : Formula) (spaced : Bool) (s : List ℕ)
    → Fine (after_formula opened way link formula spaced s)
after_formula_inner opened way link formula spaced [] = tt
after_formula_inner opened way link formula spaced (b ∷ s) =
    if_both Fine (b == byte ")") _ _ (λ _. tt)
    (λ _. if_both Fine (spaced && (is_sibling link && is_word (b ∷ s) (codes "of"))) _ _ (λ _. refl) (λ _. tt))

nth_inner : (opened : ℕ) (way : Way) (link : Link) (s : List ℕ) → Fine (nth_at opened way link s)
nth_inner opened way link s = bound IsInner (gap_at s) _
    (λ gap. if_both Fine (length gap.1 == 0) _ _ (λ _. tt)
    (λ _. bound IsInner (formula_at gap.1) _ (λ formula. bound IsInner (gap_at formula.1) _
    (λ rest. after_formula_inner opened way link formula.0 rest.0 rest.1))))

class_inner : (class : PseudoClass) (s : List ℕ) → OpensInner class → Fine (class_at class s)
class_inner (p.Edge way link) s h = whole_inner _ s
class_inner (p.Only link) s h = whole_inner _ s
class_inner (p.Outermost anchor) s h = whole_inner _ s
class_inner p.Empty s h = whole_inner _ s
class_inner (p.List role) s h = bound IsInner (argument_at s) _ (λ opened. h)
class_inner (p.Nth way link) s h = bound IsInner (argument_at s) _ (λ opened. nth_inner opened.0 way link opened.1)

by_inner : (class : Option PseudoClass) (word s : List ℕ) → MayOpen class → Fine (class_by class word s)
by_inner None word s h = tt
by_inner (Some class) word s h = class_inner class s h

pseudo_inner : (colon s : List ℕ) → Fine (pseudo_at colon s)
pseudo_inner colon s = if_both Fine (begins (λ b. b == byte ":") s) _ _ (λ _. tt)
    (λ _. bound IsInner (name_at s) _ (λ name. by_inner (pseudo_class (lower_run s)) s name.1 (class_opens (lower_run s))))

simple_inner : (s : List ℕ) → Fine (simple_at s)
simple_inner [] = tt
simple_inner (b ∷ s) = if_both Fine (b == byte ":") _ _ (λ _. pseudo_inner (b ∷ s) (past_comments s))
    (λ _. if_both Fine (b == byte "[") _ _ (λ _. bound IsInner (attribute_at (length (b ∷ s)) s) _ (λ _. tt))
    (λ _. if_both Fine (b == byte "#") _ _ (λ _. bound IsInner (name_at s) _ (λ _. tt))
    (λ _. if_both Fine (b == byte ".") _ _ (λ _. bound IsInner (name_at (past_comments s)) _ (λ _. tt))
    (λ _. if_both Fine (b == byte "&") _ _ (λ _. tt) (λ _. tt)))))

star_inner : (s : List ℕ) (o : Option (List ℕ)) → Fine (star_by s o)
star_inner s None = tt
star_inner s (Some rest) = bound IsInner (type_at (past_comments rest)) _ (λ _. tt)

first_inner : (s : List ℕ) → Fine (first_at s)
first_inner [] = tt
first_inner (b ∷ s) = if_both Fine (b == byte "*") _ _ (λ _. star_inner s (after_byte (byte "|") (past_comments s)))
    (λ _. if_both Fine (b == byte "|") _ _ (λ _. bound IsInner (type_at (past_comments s)) _ (λ _. tt))
    (λ _. if_both Fine (begins_name (b ∷ s)) _ _ (λ _. tt) (λ _. simple_inner (b ∷ s))))

by_which : (first : Bool) (s : List ℕ) → Fine (simple_by first s)
by_which true s = first_inner s
by_which false s = simple_inner s

pub never_top : (first : Bool) (s : List ℕ) (role : Role) (left : ℕ) (m : List ℕ) → SimpleReads first s (Opens role left) m → is_top role ≡ false
never_top first s role left m own = given IsInner (simple_by first s) (Opens role left) m (by_which first s) own
