-- What becomes of a tag, by the tests of the code.
use Rattle.std.proofs.Common.{◌≡◌, ℕ, Bool, true, false, not, ◌||◌, ◌&&◌, List, [], ◌∷◌, Some, None, codes, is_some, refl, ap, sym, ◌∙◌, if◌then◌else◌}
use Rattle.std.specs.Str.{bytes_eq}
use Rattle.std.proofs.lemmas.Bool.{true≢false}
use Rattle.std.proofs.lemmas.Slice.Eq.{bytes_eq-Decides}
use Rattle.tl_names.specs.Elements.{closed_at_once, is_among, table_parts}
use Rattle.tl_html_spec.specs.HtmlTokenizer.{HtmlAttribute, HtmlToken, StartTag, EndTag}
use Rattle.tl_html_spec.specs.Balanced.{Closing, Names, depth, is_button_scope, is_dropped, is_foreign, is_head, is_one_of, is_raw, is_table_bound, never, opened, put_in}
use Rattle.tl_html_balance.specs.Classes.{is}
use Rattle.tl_html_balance.specs.Tokens.{Opens, is_closed_at_once, is_misplaced, opened_as}
use Rattle.tl_html_balance.specs.declared.class.TheConstants as class
use Rattle.tl_html_balance.specs.declared.balance.Opening.TheVariants as opens
use Rattle.tl_html_balance.proofs.Tests as test
use Rattle.tl_html_balance.proofs.Rules.{at}

abbrev Test : Type 0
Test = List ℕ → Bool

or_alone : (v : Bool) → (v || false) ≡ true → v ≡ true
or_alone true e = refl
or_alone false e = absurd (true≢false (sym e))

the_one : (n w : List ℕ) → (bytes_eq n w || false) ≡ true → n ≡ w
the_one n w h = (bytes_eq-Decides n w).0 (or_alone (bytes_eq n w) h)

-- start tags that are dropped

and_last : (v w : Bool) → w ≡ true → v ≡ (v && w)
and_last true w e = sym e
and_last false w e = refl

and_none : (v w : Bool) → w ≡ false → false ≡ (v && w)
and_none true w e = sym e
and_none false w e = refl

pub dropped : (n : List ℕ) (tags : Names) (v : Bool) → is_misplaced n tags ≡ true → v ≡ is_foreign tags → not v ≡ is_dropped n tags
dropped n tags v h e = ap not e ∙ and_last (not (is_foreign tags)) (is_misplaced n tags) h

pub kept : (n : List ℕ) (tags : Names) → is_misplaced n tags ≡ false → false ≡ is_dropped n tags
kept n tags h = and_none (not (is_foreign tags)) (is_misplaced n tags) h

or_one : (v : Bool) → v ≡ (v || false)
or_one true = refl
or_one false = refl

or_two : (v : Bool) → v ≡ (v || false || false)
or_two true = refl
or_two false = refl

or_three : (v : Bool) → v ≡ (v || false || false || false)
or_three true = refl
or_three false = refl

or_four : (v : Bool) → v ≡ (v || false || false || false || false)
or_four true = refl
or_four false = refl

others : (passed : ℕ) (p : List ℕ → Bool) (tags : Names) → is passed ≡ p → is_some (depth (λ x. not (is passed x)) never tags) ≡ is_some (depth (λ x. not (p x)) never tags)
others passed p tags e = ap (λ (t : Test). is_some (depth (λ x. not (t x)) never tags)) e

named : (n w : List ℕ) (wanted : ℕ) → is wanted ≡ is_one_of w → is_one_of w n ≡ (bytes_eq n w || false) → is wanted n ≡ true → n ≡ w
named n w wanted e f h = the_one n w (sym f ∙ sym (at n e) ∙ h)

pub misplaced-html : (n : List ℕ) (tags : Names) (v : Bool) → is class.HTML n ≡ true → v ≡ is_some (depth (λ x. not (is 0 x)) never tags) → v ≡ is_misplaced n tags
misplaced-html n tags v h e =
    e ∙ others 0 never tags test.never_is
    ∙ or_four (is_some (depth (λ x. true) never tags))
    ∙ ap (λ m. is_misplaced m tags) (sym (named n (codes "html") class.HTML test.html refl h))

pub misplaced-head : (n : List ℕ) (tags : Names) (v : Bool) → is class.HEAD n ≡ true → v ≡ is_some (depth (λ x. not (is class.HTML x)) never tags) → v ≡ is_misplaced n tags
misplaced-head n tags v h e =
    e ∙ others class.HTML (is_one_of (codes "html")) tags test.html
    ∙ or_three (is_some (depth (λ x. not (is_one_of (codes "html") x)) never tags))
    ∙ ap (λ m. is_misplaced m tags) (sym (named n (codes "head") class.HEAD test.head refl h))

pub misplaced-body : (n : List ℕ) (tags : Names) (v : Bool) → is class.BODY n ≡ true → v ≡ is_some (depth (λ x. not (is class.HTML_OR_HEAD x)) never tags) → v ≡ is_misplaced n tags
misplaced-body n tags v h e =
    e ∙ others class.HTML_OR_HEAD (is_one_of (codes "html head")) tags test.html_or_head
    ∙ or_two (is_some (depth (λ x. not (is_one_of (codes "html head") x)) never tags))
    ∙ ap (λ m. is_misplaced m tags) (sym (named n (codes "body") class.BODY test.body refl h))

pub misplaced-form : (n : List ℕ) (tags : Names) (v : Bool) → is class.FORM n ≡ true → v ≡ is_some (depth (is class.FORM) (is class.TEMPLATE) tags) → v ≡ is_misplaced n tags
misplaced-form n tags v h e =
    e ∙ ap (λ (t : Test). is_some (depth t (is class.TEMPLATE) tags)) test.form
    ∙ ap (λ (t : Test). is_some (depth (is_one_of (codes "form")) t tags)) test.template
    ∙ or_one (is_some (depth (is_one_of (codes "form")) (is_one_of (codes "template")) tags))
    ∙ ap (λ m. is_misplaced m tags) (sym (named n (codes "form") class.FORM test.form refl h))

last : (a b c d e A B C D E : Bool) → a ≡ false → b ≡ false → c ≡ false → d ≡ false → (e && E) ≡ ((a && A) || (b && B) || (c && C) || (d && D) || (e && E))
last true b c d e A B C D E ha hb hc hd = absurd (true≢false ha)
last false true c d e A B C D E ha hb hc hd = absurd (true≢false hb)
last false false true d e A B C D E ha hb hc hd = absurd (true≢false hc)
last false false false true e A B C D E ha hb hc hd = absurd (true≢false hd)
last false false false false e A B C D E ha hb hc hd = refl

-- no name of a page, and no form
pub record IsPlain (n : List ℕ) : Type 0 where
  pub html : is class.HTML n ≡ false
  pub head : is class.HEAD n ≡ false
  pub body : is class.BODY n ≡ false
  pub form : is class.FORM n ≡ false

last_of : (n : List ℕ) (tags : Names) → IsPlain n → (is_among table_parts n && not (is_some (depth is_table_bound never tags))) ≡ is_misplaced n tags
last_of n tags h =
    last (is_one_of (codes "html") n) (is_head n) (is_one_of (codes "body") n) (is_one_of (codes "form") n) (is_among table_parts n) _ _ _ _ _
    (sym (at n test.html) ∙ h.html) (sym (at n test.head) ∙ h.head) (sym (at n test.body) ∙ h.body) (sym (at n test.form) ∙ h.form)

turned : (v w : Bool) → w ≡ not v → v ≡ not w
turned true w e = sym (ap not e)
turned false w e = sym (ap not e)

pub misplaced-part : (n : List ℕ) (tags : Names) (v : Bool) → IsPlain n → is class.TABLE_PART n ≡ true → is_some (depth (is class.TABLE_BOUND) (is 0) tags) ≡ not v → v ≡ is_misplaced n tags
misplaced-part n tags v plain h e =
    turned v (is_some (depth (is class.TABLE_BOUND) (is 0) tags)) e
    ∙ ap (λ (t : Test). not (is_some (depth t (is 0) tags))) test.table_bound
    ∙ ap (λ (t : Test). not (is_some (depth is_table_bound t tags))) test.never_is
    ∙ sym (ap (λ (w : Bool). w && not (is_some (depth is_table_bound never tags))) (sym (at n test.table_part) ∙ h))
    ∙ last_of n tags plain

pub well-placed : (n : List ℕ) (tags : Names) → IsPlain n → is class.TABLE_PART n ≡ false → false ≡ is_misplaced n tags
well-placed n tags plain h =
    sym (ap (λ (w : Bool). w && not (is_some (depth is_table_bound never tags))) (sym (at n test.table_part) ∙ h)) ∙ last_of n tags plain

-- start tags that stay

pub opens-void : (n : List ℕ) (closes : Bool) (tags : Names) → is class.VOID n ≡ true → Opens opens.Void n closes tags
opens-void n closes tags h c attributes e =
    ap (λ (v : Bool). if v then opened_as opens.Void c n attributes else if is_closed_at_once n closes c.left then opened_as opens.ClosedAtOnce c n attributes else opened_as opens.Open c n attributes) (sym (at n test.void) ∙ h)

opens_as : (n : List ℕ) (closes : Bool) (tags : Names) (w : Bool) → is class.VOID n ≡ false → is_closed_at_once n closes tags ≡ w → (c : Closing) (attributes : List HtmlAttribute) → c.left ≡ tags →
    opened c n attributes closes ≡ (if w then opened_as opens.ClosedAtOnce c n attributes else opened_as opens.Open c n attributes)
opens_as n closes tags w h k c attributes e =
    ap (λ (v : Bool). if v then opened_as opens.Void c n attributes else if is_closed_at_once n closes c.left then opened_as opens.ClosedAtOnce c n attributes else opened_as opens.Open c n attributes) (sym (at n test.void) ∙ h)
    ∙ ap (λ (v : Bool). if v then opened_as opens.ClosedAtOnce c n attributes else opened_as opens.Open c n attributes) (ap (is_closed_at_once n closes) e ∙ k)

pub opens-once : (n : List ℕ) (closes : Bool) (tags : Names) → is class.VOID n ≡ false → is_closed_at_once n closes tags ≡ true → Opens opens.ClosedAtOnce n closes tags
opens-once n closes tags h k c attributes e = opens_as n closes tags true h k c attributes e

pub opens-open : (n : List ℕ) (closes : Bool) (tags : Names) → is class.VOID n ≡ false → is_closed_at_once n closes tags ≡ false → Opens opens.Open n closes tags
opens-open n closes tags h k c attributes e = opens_as n closes tags false h k c attributes e

abbrev once : Bool → Bool → Bool → Bool → Bool → Bool
once a c r f s = a || (c && not r && (f || s))

once_as : (n : List ℕ) (closes : Bool) (tags : Names) (a c r f s : Bool) → is class.CLOSED_AT_ONCE n ≡ a → closes ≡ c → is class.RAW n ≡ r → is_foreign tags ≡ f → is class.FOREIGN n ≡ s → once a c r f s ≡ is_closed_at_once n closes tags
once_as n closes tags a c r f s ha hc hr hf hs =
    ap (λ x. once x c r f s) (sym ha ∙ at n test.at_once)
    ∙ ap (λ x. once (is_among closed_at_once n) x r f s) (sym hc)
    ∙ ap (λ x. once (is_among closed_at_once n) closes x f s) (sym hr ∙ at n test.raw)
    ∙ ap (λ x. once (is_among closed_at_once n) closes (is_raw n) x s) (sym hf)
    ∙ ap (λ x. once (is_among closed_at_once n) closes (is_raw n) (is_foreign tags) x) (sym hs ∙ at n test.foreign)

pub once-named : (n : List ℕ) (closes : Bool) (tags : Names) → is class.CLOSED_AT_ONCE n ≡ true → true ≡ is_closed_at_once n closes tags
once-named n closes tags h = once_as n closes tags true closes (is class.RAW n) (is_foreign tags) (is class.FOREIGN n) h refl refl refl refl

pub once-unclosed : (n : List ℕ) (closes : Bool) (tags : Names) → is class.CLOSED_AT_ONCE n ≡ false → closes ≡ false → false ≡ is_closed_at_once n closes tags
once-unclosed n closes tags h k = once_as n closes tags false false (is class.RAW n) (is_foreign tags) (is class.FOREIGN n) h k refl refl refl

pub once-raw : (n : List ℕ) (closes : Bool) (tags : Names) → is class.CLOSED_AT_ONCE n ≡ false → closes ≡ true → is class.RAW n ≡ true → false ≡ is_closed_at_once n closes tags
once-raw n closes tags h k r = once_as n closes tags false true true (is_foreign tags) (is class.FOREIGN n) h k r refl refl

or_true : (v : Bool) → true ≡ (v || true)
or_true true = refl
or_true false = refl

pub once-foreign : (n : List ℕ) (closes : Bool) (tags : Names) → is class.CLOSED_AT_ONCE n ≡ false → closes ≡ true → is class.RAW n ≡ false → is class.FOREIGN n ≡ true → true ≡ is_closed_at_once n closes tags
once-foreign n closes tags h k r s = or_true (is_foreign tags) ∙ once_as n closes tags false true false (is_foreign tags) true h k r refl s

pub once-inside : (n : List ℕ) (closes : Bool) (tags : Names) (v : Bool) → is class.CLOSED_AT_ONCE n ≡ false → closes ≡ true → is class.RAW n ≡ false → is class.FOREIGN n ≡ false → v ≡ is_foreign tags → v ≡ is_closed_at_once n closes tags
once-inside n closes tags v h k r s e = e ∙ or_one (is_foreign tags) ∙ once_as n closes tags false true false (is_foreign tags) false h k r refl s

-- what end tags put in

abbrev puts : List ℕ → Bool → Bool → Bool → Bool → List HtmlToken
puts n b p f s =
    if b then StartTag n [] false ∷ [] else if p && not f && not s then StartTag n [] false ∷ EndTag n ∷ [] else []

puts_as : (n : List ℕ) (tags : Names) (b p f s : Bool) → is class.BR n ≡ b → is class.P n ≡ p → is_foreign tags ≡ f → is_some (depth (is class.P) (is class.BUTTON_SCOPE) tags) ≡ s → put_in n tags ≡ puts n b p f s
puts_as n tags b p f s hb hp hf hs =
    let scoped : is_some (depth (is_one_of (codes "p")) is_button_scope tags) ≡ s =
    ap (λ (t : Test). is_some (depth (is_one_of (codes "p")) t tags)) (sym test.button_scope) ∙ ap (λ (t : Test). is_some (depth t (is class.BUTTON_SCOPE) tags)) (sym test.p) ∙ hs in
    ap (λ x. puts n x (is_one_of (codes "p") n) (is_foreign tags) (is_some (depth (is_one_of (codes "p")) is_button_scope tags))) (sym (at n test.br) ∙ hb)
    ∙ ap (λ x. puts n b x (is_foreign tags) (is_some (depth (is_one_of (codes "p")) is_button_scope tags))) (sym (at n test.p) ∙ hp)
    ∙ ap (λ x. puts n b p x (is_some (depth (is_one_of (codes "p")) is_button_scope tags))) hf
    ∙ ap (λ x. puts n b p f x) scoped

pub puts-break : (n : List ℕ) (tags : Names) → is class.BR n ≡ true → put_in n tags ≡ StartTag n [] false ∷ []
puts-break n tags h = puts_as n tags true (is class.P n) (is_foreign tags) (is_some (depth (is class.P) (is class.BUTTON_SCOPE) tags)) h refl refl refl

pub puts-other : (n : List ℕ) (tags : Names) → is class.BR n ≡ false → is class.P n ≡ false → put_in n tags ≡ []
puts-other n tags h k = puts_as n tags false false (is_foreign tags) (is_some (depth (is class.P) (is class.BUTTON_SCOPE) tags)) h k refl refl

pub puts-foreign : (n : List ℕ) (tags : Names) → is class.BR n ≡ false → is class.P n ≡ true → is_foreign tags ≡ true → put_in n tags ≡ []
puts-foreign n tags h k f = puts_as n tags false true true (is_some (depth (is class.P) (is class.BUTTON_SCOPE) tags)) h k f refl

pub puts-closed : (n : List ℕ) (tags : Names) (d : ℕ) → is class.BR n ≡ false → is class.P n ≡ true → is_foreign tags ≡ false → Some d ≡ depth (is class.P) (is class.BUTTON_SCOPE) tags → put_in n tags ≡ []
puts-closed n tags d h k f e = puts_as n tags false true false true h k f (ap is_some (sym e))

pub puts-paragraph : (n : List ℕ) (tags : Names) → is class.BR n ≡ false → is class.P n ≡ true → is_foreign tags ≡ false → None ≡ depth (is class.P) (is class.BUTTON_SCOPE) tags → put_in n tags ≡ StartTag n [] false ∷ EndTag n ∷ []
puts-paragraph n tags h k f e = puts_as n tags false true false false h k f (ap is_some (sym e))
