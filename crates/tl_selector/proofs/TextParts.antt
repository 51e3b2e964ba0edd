-- How parts are nested, one after the other, and what a reader answers.
use Rattle.std.proofs.Common.{◌≡◌, ◌≢◌, ℕ, List, refl, sym, ap, ◌∙◌, Option, Some, None, option_map, IfSome, IfNone}
use Rattle.tl_spec.specs.Lex.Runs.{drop_while}
use Rattle.tl_spec.specs.Select.Selector as spec
use Rattle.tl_spec.specs.Select.Text.{IsSelectorText, StandsAlone}
use Rattle.tl_spec.specs.Lex.ByteClass.{is_space}
use Rattle.tl_spec.specs.Select.Reading.{simple_at, End, Bad, next_at, combine, list_after, complex_after, selector_at}
use Rattle.tl_spec.proofs.Select.Text.{alone-read, text-only, text-none}
pub use Rattle.tl_spec.proofs.Select.Text.{rest_part, rest_end, rest_bad, next_lt}
use Rattle.tl_selector.specs.View.{selector}
use Rattle.tl_selector.specs.declared.selector.Selector.{Selector}
use Rattle.tl_selector.specs.MissingSimple.{LacksSecond}
use Rattle.tl_selector.specs.Inner.ParserViews.{separator}
use Rattle.tl_selector.specs.declared.parser.complex.Separator.{Separator}
use Rattle.tl_selector.specs.declared.parser.complex.Separator.TheVariants.{Comma, Step, Spaces, Touch}

-- a link that is no `,` makes the chain longer
pub kept_chain : (l : Separator) (b : Option spec.Selector) (c e : spec.Selector) → (l ≡ Comma → ⊥) → (list_after (separator l) b c ≡ b) × (complex_after (separator l) c e ≡ combine (separator l) c e)
kept_chain Comma b c e n = absurd (n refl)
kept_chain Step b c e n = (refl, refl)
kept_chain Spaces b c e n = (refl, refl)
kept_chain Touch b c e n = (refl, refl)

-- a part that stands alone is read, and then comes the end

pub alone_some : (s : List ℕ) → StandsAlone s → simple_at (drop_while is_space s) ≢ None
alone_some s h e = let k : Some (alone-read s h).0 ≡ None = sym (alone-read s h).1 ∙ e in cc

pub alone_end : (s : List ℕ) (p : spec.Selector × List ℕ) → StandsAlone s → simple_at (drop_while is_space s) ≡ Some p → next_at p.1 ≡ End
alone_end s p h e =
    let a = alone-read s h in
    let k : Some a.0 ≡ Some p = sym a.1 ∙ e in
    let w : a.0 ≡ p = cc in
    ap (λ (p : spec.Selector × List ℕ). next_at p.1) (sym w) ∙ a.2

-- what comes after the first part, where the second is lacking
pub second_bad : (s : List ℕ) (p : spec.Selector × List ℕ) → LacksSecond s → simple_at (drop_while is_space s) ≡ Some p → next_at p.1 ≡ Bad
second_bad s p h e =
    let k : Some (next_at p.1) ≡ Some Bad = sym (ap (option_map (λ first. next_at first.1)) e) ∙ h in
    cc

-- what a reader answers

pub selector_found : (s : List ℕ) (o : Option Selector) → option_map selector o ≡ selector_at s → IfSome o (λ e. IsSelectorText s (selector e))
selector_found s None h = tt
selector_found s (Some e) h = (text-only s (selector e)).1 (sym h)

pub selector_none : (s : List ℕ) (o : Option Selector) → option_map selector o ≡ selector_at s → IfNone o ((e : spec.Selector) → IsSelectorText s e → ⊥)
selector_none s None h = (text-none s).1 (sym h)
selector_none s (Some x) h = tt
