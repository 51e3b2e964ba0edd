-- Balanced tokens nest: each end tag closes the innermost open one, and none stays open.
use Rattle.std.proofs.Common.{◌≡◌, ℕ, zero, suc, Bool, true, false, ◌==◌, ◌&&◌, ◌||◌, not, List, [], ◌∷◌, ◌++◌, map, take, drop, Some, codes, refl, ap, sym, ◌∙◌, append_assoc, true≢false, if◌then◌else◌}
use Rattle.std.specs.Str.{bytes_eq}
use Rattle.std.specs.List.{list_any}
use Rattle.std.proofs.lemmas.Slice.Eq.{bytes_eq-Decides}
use Rattle.tl_spec.specs.Lex.ByteClass.{is_void}
use Rattle.tl_names.specs.Elements.{closed_at_once, head_parts, is_among}
use Rattle.tl_html_spec.specs.HtmlTokenizer.{HtmlAttribute, HtmlToken, Character, StartTag, EndTag, CommentToken, DoctypeToken, is_white_space}
use Rattle.tl_html_spec.specs.Balanced.{Balance, Balanced, Closing, Names, Rule, after_closing, balance, balanced, balanced_from, before_start, carried_out, closed_by, closing, is_dropped, is_foreign, is_head, is_one_of, is_raw, leading, left_open, nothing_more, opened, put_in, rules_before, start, then_closing, when, without_innermost}

first_gone : (n : List ℕ) (ns : Names) → without_innermost n (n ∷ ns) ≡ Some ns
first_gone n ns = rw ((bytes_eq-Decides n n).1 refl) refl

pub end_closes : (n : List ℕ) (ns : Names) (us : List HtmlToken) → left_open (n ∷ ns) (EndTag n ∷ us) ≡ left_open ns us
end_closes n ns us = rw (first_gone n ns, left_open) refl

ends_close : (k : ℕ) (ns : Names) (us : List HtmlToken) → left_open ns (map EndTag (take k ns) ++ us) ≡ left_open (drop k ns) us
ends_close zero ns us = refl
ends_close (suc k) [] us = refl
ends_close (suc k) (n ∷ ns) us = end_closes n ns (map EndTag (take k ns) ++ us) ∙ ends_close k ns us

all_close : (ns : Names) → left_open ns (map EndTag ns) ≡ Some []
all_close [] = refl
all_close (n ∷ ns) = end_closes n ns (map EndTag ns) ∙ all_close ns

-- what is emitted leads from these open names to those
abbrev Leads : Names → List HtmlToken → Names → Type 0
Leads ns ts ms = (us : List HtmlToken) → left_open ns (ts ++ us) ≡ left_open ms us

leads_on : (ns : Names) (ts : List HtmlToken) (ms : Names) (us : List HtmlToken) (ls : Names) → Leads ns ts ms → Leads ms us ls → Leads ns (ts ++ us) ls
leads_on ns ts ms us ls h k vs = ap (left_open ns) (append_assoc ts us vs) ∙ h (us ++ vs) ∙ k vs

abbrev Closes : Names → Closing → Type 0
Closes ns c = Leads ns c.ends c.left

carried : (rules : List Rule) (ns : Names) → Closes ns (carried_out rules ns)
carried [] ns = λ us. refl
carried (rule ∷ rules) ns =
    leads_on ns (map EndTag (take (rule ns) ns)) (drop (rule ns) ns) (carried_out rules (drop (rule ns) ns)).ends (carried_out rules (drop (rule ns) ns)).left
    (ends_close (rule ns) ns) (carried rules (drop (rule ns) ns))

either : (v : Bool) (ns : Names) (c d : Closing) → Closes ns c → Closes ns d → Closes ns (if v then c else d)
either true ns c d h k = h
either false ns c d h k = k

before : (n : List ℕ) (ns : Names) → Closes ns (before_start n ns)
before n ns =
    let rule : Rule = when (not (is_among head_parts n || is_head n)) (leading is_head) in
    let first : Closing = closing (rule ns) ns in
    let more : Closing = carried_out (rules_before n) first.left in
    either (is_foreign first.left) ns first (then_closing first more) (ends_close (rule ns) ns)
    (leads_on ns first.ends first.left more.ends more.left (ends_close (rule ns) ns) (carried (rules_before n) first.left))

abbrev Goes : Names → Balanced → Type 0
Goes ns b = Leads ns b.emits b.next.open_tags

chosen : (v : Bool) (ns : Names) (a b : Balanced) → (v ≡ true → Goes ns a) → (v ≡ false → Goes ns b) → Goes ns (if v then a else b)
chosen true ns a b h k = h refl
chosen false ns a b h k = k refl

stays_open : (n : List ℕ) (xs : List HtmlAttribute) (ms : Names) → is_void n ≡ false → Leads ms (StartTag n xs false ∷ []) (n ∷ ms)
stays_open n xs ms v us = rw (v, left_open) refl

none_opens : (n : List ℕ) (xs : List HtmlAttribute) (ms : Names) → is_void n ≡ true → Leads ms (StartTag n xs false ∷ []) ms
none_opens n xs ms v us = rw (v, left_open) refl

at_once : (n : List ℕ) (xs : List HtmlAttribute) (ms : Names) → is_void n ≡ false → Leads ms (StartTag n xs false ∷ EndTag n ∷ []) ms
at_once n xs ms v us = rw (v, left_open) (end_closes n ms us)

opens : (c : Closing) (ns : Names) (n : List ℕ) (xs : List HtmlAttribute) (closes : Bool) → Closes ns c → Goes ns (opened c n xs closes)
opens c ns n xs closes h =
    chosen (is_void n) ns _ _ (λ v. leads_on ns c.ends c.left (StartTag n xs false ∷ []) c.left h (none_opens n xs c.left v))
    (λ v. chosen (is_among closed_at_once n || (closes && not (is_raw n) && (is_foreign c.left || is_one_of (codes "svg math") n))) ns _ _
    (λ _. leads_on ns c.ends c.left (StartTag n xs false ∷ EndTag n ∷ []) c.left h (at_once n xs c.left v))
    (λ _. leads_on ns c.ends c.left (StartTag n xs false ∷ []) (n ∷ c.left) h (stays_open n xs c.left v)))

or_alone : (v : Bool) → (v || false) ≡ true → v ≡ true
or_alone true e = refl
or_alone false e = absurd (true≢false (sym e))

-- what an end tag puts in
is_the_one : (n w : List ℕ) → list_any (bytes_eq n) (w ∷ []) ≡ true → n ≡ w
is_the_one n w h = (bytes_eq-Decides n w).0 (or_alone (bytes_eq n w) h)

either_put : (v : Bool) (ns : Names) (ts us : List HtmlToken) → (v ≡ true → Leads ns ts ns) → Leads ns us ns → Leads ns (if v then ts else us) ns
either_put true ns ts us h k = h refl
either_put false ns ts us h k = k

first_part : (u v w : Bool) → (u && v && w) ≡ true → u ≡ true
first_part true v w e = refl
first_part false v w e = absurd (true≢false (sym e))

puts : (n : List ℕ) (ns ms : Names) → Leads ms (put_in n ns) ms
puts n ns ms =
    either_put (is_one_of (codes "br") n) ms (StartTag n [] false ∷ []) _
    (λ y. none_opens n [] ms (ap is_void (is_the_one n (codes "br") y)))
    (either_put _ ms (StartTag n [] false ∷ EndTag n ∷ []) [] (λ y. at_once n [] ms (ap is_void (is_the_one n (codes "p") (first_part _ _ _ y)))) (λ us. refl))

moves : (s : Balance) (t : HtmlToken) → Goes s.open_tags (balance s t)
moves s (Character b) =
    let rule : Rule = when (not (is_white_space b)) (leading is_head) in
    chosen ((b == 0) || (s.drops_feed && (b == 10))) s.open_tags (nothing_more s) (after_closing (closing (rule s.open_tags) s.open_tags) (Character b ∷ [])) (λ _ us. refl)
    (λ _. leads_on s.open_tags (map EndTag (take (rule s.open_tags) s.open_tags)) (drop (rule s.open_tags) s.open_tags) (Character b ∷ []) (drop (rule s.open_tags) s.open_tags)
    (ends_close (rule s.open_tags) s.open_tags) (λ us. refl))
moves s (StartTag n xs closes) =
    chosen (is_dropped n s.open_tags) s.open_tags (nothing_more s) (opened (before_start n s.open_tags) n xs closes) (λ _ us. refl)
    (λ _. opens (before_start n s.open_tags) s.open_tags n xs closes (before n s.open_tags))
moves s (EndTag n) =
    let k : ℕ = closed_by n s.open_tags in
    leads_on s.open_tags (map EndTag (take k s.open_tags)) (drop k s.open_tags) (put_in n s.open_tags) (drop k s.open_tags)
    (ends_close k s.open_tags) (puts n s.open_tags (drop k s.open_tags))
moves s (CommentToken bytes) = λ us. refl
moves s DoctypeToken = λ us. refl

from_nests : (ts : List HtmlToken) (s : Balance) → left_open s.open_tags (balanced_from s ts) ≡ Some []
from_nests [] s = all_close s.open_tags
from_nests (t ∷ ts) s = moves s t (balanced_from (balance s t).next ts) ∙ from_nests ts (balance s t).next

pub balanced_nest : (ts : List HtmlToken) → left_open [] (balanced ts) ≡ Some []
balanced_nest ts = from_nests ts start
