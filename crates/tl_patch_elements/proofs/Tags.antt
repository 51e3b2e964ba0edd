-- Tags: what they end, and what they begin.
use Rattle.std.proofs.Common.{◌≡◌, ℕ, suc, Bool, true, false, not, ◌||◌, ◌&&◌, List, [], ◌∷◌, ◌++◌, length, take, drop, map, codes, refl, ap, ap₂, sym, ◌∙◌, append_assoc, append-nil, arith, true≢false, is_some, if◌then◌else◌}
use Rattle.std.specs.Str.{bytes_eq}
use Rattle.std.proofs.lemmas.Bool.{and_parts}
use Rattle.std.proofs.lemmas.Slice.Eq.{bytes_eq-Decides}
use Rattle.tl_spec.specs.Lex.ByteClass.{is_void}
use Rattle.tl_html_spec.specs.HtmlTokenizer.{HtmlAttribute, HtmlToken, StartTag, EndTag, CommentToken, DoctypeToken}
use Rattle.tl_html_spec.specs.Balanced.{Balance, Balanced, Closing, Names, balance, before_start, closed_by, closing, depth, is_button_scope, is_dropped, is_foreign, is_one_of, opened, put_in}
use Rattle.tl_html_balance.specs.Tokens.{Opens, is_closed_at_once, opened_as, tokens_put_in}
use Rattle.tl_html_balance.specs.View.{open_names}
use Rattle.tl_html_balance.specs.declared.balance.Opening.{Opening}
use Rattle.tl_html_balance.specs.declared.balance.Opening.TheVariants as opens
use Rattle.tl_html_balance.specs.declared.balance.PutIn.{PutIn}
use Rattle.tl_html_balance.specs.declared.balance.PutIn.TheVariants as puts
use Rattle.tl_patch_elements.specs.Inner.Opened.{opened_tags, opened_tokens}
use Rattle.tl_patch_spec.specs.Elements.{PlacedToken, at_piece, elements_of, ended_element, is_end_tag, tokens_at}
use Rattle.tl_patch_elements.specs.Inner.Finding.{Finds, IsNamed, balance_of, elements_with, is_alone, is_nothing, is_paragraph, stack_of}
use Rattle.tl_patch_elements.specs.View.{elements_view}
use Rattle.tl_patch_elements.specs.declared.finder.Finder.{Finder}
use Rattle.tl_patch_elements.proofs.Closing.{last_own}
use Rattle.tl_patch_elements.proofs.Stack.{pair_ended, skip_comment, void_ended}

-- one token of a piece

pub one_found : (old new : Finder) (p : ℕ) (t : HtmlToken) →
    ((feed : Bool) (rest : List PlacedToken) → elements_with old (tokens_at p (is_end_tag t) (balance (balance_of old feed) t).emits ++ rest) ≡ elements_with new rest) →
    ((feed : Bool) → (balance (balance_of old feed) t).next.open_tags ≡ open_names new.open_tags) → Finds old new p (t ∷ [])
one_found old new p t h n = record {
  elements = λ feed rest.
      ap (λ ts. elements_with old (ts ++ rest)) (append-nil (tokens_at p (is_end_tag t) (balance (balance_of old feed) t).emits)) ∙ h feed rest;
  names = n;
}

pub none_found : (f : Finder) (p : ℕ) → Finds f f p []
none_found f p = record { elements = λ feed rest. refl; names = λ feed. refl }

pub comment_found : (f : Finder) (p : ℕ) (d : List ℕ) → Finds f f p (CommentToken d ∷ [])
comment_found f p d = one_found f f p (CommentToken d)
    (λ feed rest. ap (λ es. elements_view f.ended.items ++ es) (skip_comment (stack_of f) p false d rest))
    (λ feed. refl)

pub doctype_found : (f : Finder) (p : ℕ) → Finds f f p (DoctypeToken ∷ [])
doctype_found f p = one_found f f p DoctypeToken (λ feed rest. refl) (λ feed. refl)

-- a start tag that is dropped

dropped_is : (s : Balance) (n : List ℕ) (a : List HtmlAttribute) (c : Bool) → is_dropped n s.open_tags ≡ true → (balance s (StartTag n a c)).emits ≡ []
dropped_is s n a c h = rw h refl

dropped_next : (s : Balance) (n : List ℕ) (a : List HtmlAttribute) (c : Bool) → is_dropped n s.open_tags ≡ true → (balance s (StartTag n a c)).next.open_tags ≡ s.open_tags
dropped_next s n a c h = rw h refl

pub dropped_found : (f : Finder) (p : ℕ) (n : List ℕ) (a : List HtmlAttribute) (c : Bool) → is_dropped n (open_names f.open_tags) ≡ true → Finds f f p (StartTag n a c ∷ [])
dropped_found f p n a c h = one_found f f p (StartTag n a c)
    (λ feed rest. ap (λ ts. elements_with f (tokens_at p false ts ++ rest)) (dropped_is (balance_of f feed) n a c h))
    (λ feed. dropped_next (balance_of f feed) n a c h)

-- one that stays

kept_is : (s : Balance) (n : List ℕ) (a : List HtmlAttribute) (c : Bool) (k : ℕ) (o : Opening) → is_dropped n s.open_tags ≡ false →
    closing k s.open_tags ≡ before_start n s.open_tags → Opens o n c (drop k s.open_tags) → balance s (StartTag n a c) ≡ opened_as o (closing k s.open_tags) n a
kept_is s n a c k o h e i =
    rw h (ap (λ (x : Closing). opened x n a c) (sym e) ∙ i (closing k s.open_tags) a refl)

opened_emits : (o : Opening) (c : Closing) (n : List ℕ) (a : List HtmlAttribute) → (opened_as o c n a).emits ≡ c.ends ++ StartTag n a false ∷ opened_tokens o n
opened_emits opens.Void c n a = refl
opened_emits opens.ClosedAtOnce c n a = refl
opened_emits opens.Open c n a = refl

opened_next : (o : Opening) (c : Closing) (n : List ℕ) (a : List HtmlAttribute) → (opened_as o c n a).next.open_tags ≡ (opened_tags o n c.left).open_tags
opened_next opens.Void c n a = refl
opened_next opens.ClosedAtOnce c n a = refl
opened_next opens.Open c n a = refl

abbrev pub OpenedAt : ℕ → Opening → List ℕ → List HtmlAttribute → List PlacedToken
OpenedAt p o n a = tokens_at p false (StartTag n a false ∷ opened_tokens o n)

pub start_found : (old mid new : Finder) (p : ℕ) (n : List ℕ) (a : List HtmlAttribute) (c : Bool) (k : ℕ) (o : Opening) → is_dropped n (open_names old.open_tags) ≡ false →
    closing k (open_names old.open_tags) ≡ before_start n (open_names old.open_tags) → Opens o n c (drop k (open_names old.open_tags)) →
    ((rest : List PlacedToken) → elements_with old (tokens_at p false (map EndTag (take k (open_names old.open_tags))) ++ rest) ≡ elements_with mid rest) →
    open_names mid.open_tags ≡ drop k (open_names old.open_tags) →
    ((rest : List PlacedToken) → elements_with mid (OpenedAt p o n a ++ rest) ≡ elements_with new rest) →
    open_names new.open_tags ≡ (opened_tags o n (open_names mid.open_tags)).open_tags → Finds old new p (StartTag n a c ∷ [])
start_found old mid new p n a c k o d e i h m g w =
    let tags : Names = open_names old.open_tags in
    let ends : List HtmlToken = map EndTag (take k tags) in
    one_found old new p (StartTag n a c)
    (λ feed rest.
    ap (λ (x : Balanced). elements_with old (tokens_at p false x.emits ++ rest)) (kept_is (balance_of old feed) n a c k o d e i)
    ∙ ap (λ ts. elements_with old (tokens_at p false ts ++ rest)) (opened_emits o (closing k tags) n a)
    ∙ ap (λ ts. elements_with old (ts ++ rest)) (last_own p false ends (StartTag n a false) (opened_tokens o n))
    ∙ ap (elements_with old) (append_assoc (tokens_at p false ends) (OpenedAt p o n a) rest)
    ∙ h (OpenedAt p o n a ++ rest)
    ∙ g rest)
    (λ feed.
    ap (λ (x : Balanced). x.next.open_tags) (kept_is (balance_of old feed) n a c k o d e i)
    ∙ opened_next o (closing k tags) n a
    ∙ ap (λ (x : Names). (opened_tags o n x).open_tags) (sym m)
    ∙ sym w)

-- which tags are whole elements by their names

longer : (left : Names) (n : List ℕ) → left ≡ n ∷ left → ⊥
longer left n e = let l : length left ≡ suc (length left) = ap length e in omega arith

abbrev at_left : Names → Closing
at_left left = record { ends = []; left = left }

opened_way : (v w : Bool) (o : Opening) (n : List ℕ) (left : Names) →
    (if v then opened_as opens.Void (at_left left) n [] else if w then opened_as opens.ClosedAtOnce (at_left left) n [] else opened_as opens.Open (at_left left) n [])
    ≡ opened_as o (at_left left) n [] → v ≡ is_alone o
opened_way true w opens.Void n left e = refl
opened_way true w opens.ClosedAtOnce n left e =
    let ts : StartTag n [] false ∷ [] ≡ StartTag n [] false ∷ EndTag n ∷ [] = ap (λ (b : Balanced). b.emits) e in cc
opened_way true w opens.Open n left e = absurd (longer left n (ap (λ (b : Balanced). b.next.open_tags) e))
opened_way false w opens.ClosedAtOnce n left e = refl
opened_way false w opens.Open n left e = refl
opened_way false true opens.Void n left e =
    let ts : StartTag n [] false ∷ EndTag n ∷ [] ≡ StartTag n [] false ∷ [] = ap (λ (b : Balanced). b.emits) e in cc
opened_way false false opens.Void n left e = absurd (longer left n (sym (ap (λ (b : Balanced). b.next.open_tags) e)))

pub alone_is : (o : Opening) (n : List ℕ) (c : Bool) (left : Names) → Opens o n c left → is_void n ≡ is_alone o
alone_is o n c left h = opened_way (is_void n) (is_closed_at_once n c left) o n left (h (at_left left) [] refl)

-- what it begins

pub alone_found : (old new : Finder) (p : ℕ) (w : Bool) (n : List ℕ) (a : List HtmlAttribute) → is_void n ≡ true →
    ((rest : List PlacedToken) → elements_view old.ended.items ++ ended_element (n, p) p false ∷ elements_of (stack_of old) rest ≡ elements_with new rest) →
    (rest : List PlacedToken) → elements_with old (at_piece p w (StartTag n a false) ∷ rest) ≡ elements_with new rest
alone_found old new p w n a v h rest =
    ap (λ es. elements_view old.ended.items ++ es) (void_ended (stack_of old) p w n a false rest v) ∙ h rest

pub pair_found : (old new : Finder) (p : ℕ) (w : Bool) (n : List ℕ) (a : List HtmlAttribute) → is_void n ≡ false →
    ((rest : List PlacedToken) → elements_view old.ended.items ++ ended_element (n, p) p w ∷ elements_of (stack_of old) rest ≡ elements_with new rest) →
    (rest : List PlacedToken) → elements_with old (at_piece p false (StartTag n a false) ∷ at_piece p w (EndTag n) ∷ rest) ≡ elements_with new rest
pair_found old new p w n a v h rest =
    ap (λ es. elements_view old.ended.items ++ es) (pair_ended (stack_of old) p false w n n a false rest v) ∙ h rest

-- an end tag

pub end_found : (old new : Finder) (p : ℕ) (n : List ℕ) (k : ℕ) (put : PutIn) → k ≡ closed_by n (open_names old.open_tags) → put_in n (open_names old.open_tags) ≡ tokens_put_in put n →
    ((rest : List PlacedToken) → elements_with old (tokens_at p true (map EndTag (take k (open_names old.open_tags)) ++ tokens_put_in put n) ++ rest) ≡ elements_with new rest) →
    open_names new.open_tags ≡ drop k (open_names old.open_tags) → Finds old new p (EndTag n ∷ [])
end_found old new p n k put e i h m =
    let tags : Names = open_names old.open_tags in
    one_found old new p (EndTag n)
    (λ feed rest.
    ap₂ (λ (j : ℕ) (ts : List HtmlToken). elements_with old (tokens_at p true (map EndTag (take j tags) ++ ts) ++ rest)) (sym e) i ∙ h rest)
    (λ feed. ap (λ j. drop j tags) (sym e) ∙ sym m)

own_split : (put : PutIn) (p : ℕ) (n : List ℕ) (ends : List HtmlToken) →
    tokens_at p true (ends ++ tokens_put_in put n) ≡ tokens_at p (is_nothing put) ends ++ tokens_at p true (tokens_put_in put n)
own_split puts.Nothing p n ends = ap (tokens_at p true) (append-nil ends) ∙ sym (append-nil (tokens_at p true ends))
own_split puts.LineBreak p n ends = last_own p true ends (StartTag n [] false) []
own_split puts.Paragraph p n ends = last_own p true ends (StartTag n [] false) (EndTag n ∷ [])

-- what it closes, and what it puts in
pub end_goes : (old mid new : Finder) (p : ℕ) (n : List ℕ) (k : ℕ) (put : PutIn) → k ≡ closed_by n (open_names old.open_tags) → put_in n (open_names old.open_tags) ≡ tokens_put_in put n →
    ((rest : List PlacedToken) → elements_with old (tokens_at p (is_nothing put) (map EndTag (take k (open_names old.open_tags))) ++ rest) ≡ elements_with mid rest) →
    open_names mid.open_tags ≡ drop k (open_names old.open_tags) →
    ((rest : List PlacedToken) → elements_with mid (tokens_at p true (tokens_put_in put n) ++ rest) ≡ elements_with new rest) →
    open_names new.open_tags ≡ open_names mid.open_tags → Finds old new p (EndTag n ∷ [])
end_goes old mid new p n k put e i h m g w =
    let ends : List HtmlToken = map EndTag (take k (open_names old.open_tags)) in
    end_found old new p n k put e i
    (λ rest.
    ap (λ ts. elements_with old (ts ++ rest)) (own_split put p n ends)
    ∙ ap (elements_with old) (append_assoc (tokens_at p (is_nothing put) ends) (tokens_at p true (tokens_put_in put n)) rest)
    ∙ h (tokens_at p true (tokens_put_in put n) ++ rest)
    ∙ g rest)
    (w ∙ m)

pub put_found : (old new : Finder) (p : ℕ) (n : List ℕ) (put : PutIn) → is_nothing put ≡ false → IsNamed put n →
    ((rest : List PlacedToken) → elements_view old.ended.items ++ ended_element (n, p) p (is_paragraph put) ∷ elements_of (stack_of old) rest ≡ elements_with new rest) →
    (rest : List PlacedToken) → elements_with old (tokens_at p true (tokens_put_in put n) ++ rest) ≡ elements_with new rest
put_found old new p n puts.Nothing e i h rest = cc
put_found old new p n puts.LineBreak e i h rest = alone_found old new p true n [] i h rest
put_found old new p n puts.Paragraph e i h rest = pair_found old new p true n [] i h rest

pub none_put : (f : Finder) (p : ℕ) (n : List ℕ) (put : PutIn) → is_nothing put ≡ true → (rest : List PlacedToken) → elements_with f (tokens_at p true (tokens_put_in put n) ++ rest) ≡ elements_with f rest
none_put f p n puts.Nothing e rest = refl
none_put f p n puts.LineBreak e rest = cc
none_put f p n puts.Paragraph e rest = cc

-- the names of what end tags put in

or_alone : (v : Bool) → (v || false) ≡ true → v ≡ true
or_alone true e = refl
or_alone false e = absurd (true≢false (sym e))

the_one : (n w : List ℕ) → (bytes_eq n w || false) ≡ true → n ≡ w
the_one n w h = (bytes_eq-Decides n w).0 (or_alone (bytes_eq n w) h)

abbrev putting : List ℕ → Bool → Bool → List HtmlToken
putting n b w = if b then StartTag n [] false ∷ [] else if w then StartTag n [] false ∷ EndTag n ∷ [] else []

break_way : (n : List ℕ) (b w : Bool) → putting n b w ≡ StartTag n [] false ∷ [] → b ≡ true
break_way n true w e = refl
break_way n false true e = cc
break_way n false false e = cc

paragraph_way : (n : List ℕ) (b w : Bool) → putting n b w ≡ StartTag n [] false ∷ EndTag n ∷ [] → w ≡ true
paragraph_way n true w e = cc
paragraph_way n false true e = refl
paragraph_way n false false e = cc

abbrev puts_paragraph : List ℕ → Names → Bool
puts_paragraph n tags = is_one_of (codes "p") n && not (is_foreign tags) && not (is_some (depth (is_one_of (codes "p")) is_button_scope tags))

pub break_is_void : (n : List ℕ) (tags : Names) → put_in n tags ≡ StartTag n [] false ∷ [] → is_void n ≡ true
break_is_void n tags e = ap is_void (the_one n (codes "br") (break_way n (is_one_of (codes "br") n) (puts_paragraph n tags) e))

pub paragraph_is_open : (n : List ℕ) (tags : Names) → put_in n tags ≡ StartTag n [] false ∷ EndTag n ∷ [] → is_void n ≡ false
paragraph_is_open n tags e =
    let all = paragraph_way n (is_one_of (codes "br") n) (puts_paragraph n tags) e in
    let both = and_parts (is_one_of (codes "p") n && not (is_foreign tags)) (not (is_some (depth (is_one_of (codes "p")) is_button_scope tags))) all in
    let one = and_parts (is_one_of (codes "p") n) (not (is_foreign tags)) both.0 in
    ap is_void (the_one n (codes "p") one.0)

pub put_named : (n : List ℕ) (tags : Names) (put : PutIn) → put_in n tags ≡ tokens_put_in put n → IsNamed put n
put_named n tags puts.Nothing e = tt
put_named n tags puts.LineBreak e = break_is_void n tags e
put_named n tags puts.Paragraph e = paragraph_is_open n tags e
