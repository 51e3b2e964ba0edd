-- States of the tree builder at a place of a page: what it holds, and how a token leads from one to the next.
use Rattle.std.proofs.Common.{Bool, List, None, [], ap, append_assoc, arith, false, if◌then◌else◌, inl, inr, length, not, refl, subst, suc, sym, true, true≢false, zero, ℕ, ◌&&◌, ◌++◌, ◌<◌, ◌==◌, ◌||◌, ◌∙◌, ◌∷◌, ◌≡◌, ◌≤◌}
use Rattle.std.specs.Prelude.{⊤, nat_lt, ◌*◌, ◌+◌, ◌-◌}
use Rattle.std.specs.Str.{bytes_eq}
use Rattle.std.proofs.lemmas.Bool.{and_parts, cases_Bool, cond-false, ltb-true, or_from, or_left, or_parts, or_right}
use Rattle.std.proofs.lemmas.Bool.Decides.{nat_tests}
use Rattle.tl_html_spec.specs.HtmlTokenizer.{State, data_state}
use Rattle.tl_tree_spec.specs.Builder as P
use Rattle.tl_tree_spec.specs.Groups as G
use Rattle.tl_tree_spec.specs.Stays as Y
use Rattle.tl_tree_spec.proofs.Active.{is_active, same_number}
use Rattle.tl_dom_spec.specs.Builder as B
use Rattle.tl_dom_spec.specs.Dispatcher as M
use Rattle.tl_dom_spec.specs.Formatting as F
use Rattle.tl_dom_spec.specs.Marks.{Marked}
use Rattle.tl_dom_spec.specs.Path as W
use Rattle.tl_dom_spec.specs.Tags as T
use Rattle.tl_dom_spec.specs.Tags.{Tag}
use Rattle.tl_tree_safe.specs.OfPages.{are_given, has_no_active}
use Rattle.tl_tree_safe.proofs.PageTags.{Inner, has, names_of, numbers, numbers_of, open-numbers, tag_in}

-- what changes from token to token beside the path, the entries and the mode
pub record Counts : Type 0 where
  pub next : ℕ
  pub original : B.Mode
  pub pending : List ℕ
  pub is_frameset_ok : Bool
  pub reads : State
  pub tokens : ℕ
  pub added : ℕ
  pub excess : ℕ
  pub marks : ℕ

abbrev pub counts_of : B.Builder → Counts
counts_of b = record {
  next = b.next;
  original = b.original;
  pending = b.pending;
  is_frameset_ok = b.is_frameset_ok;
  reads = b.reads;
  tokens = b.tokens;
  added = b.added;
  excess = b.excess;
  marks = b.marks;
}

-- a page is read, and nothing is foster parented
abbrev pub state : B.Builder → W.Path → List B.Entry → B.Mode → Bool → Counts → B.Builder
state b path active m skips k = record b {
  path = path;
  active = active;
  next = k.next;
  mode = m;
  original = k.original;
  is_frameset_ok = k.is_frameset_ok;
  is_fostering = false;
  skips = skips;
  pending = k.pending;
  context = None;
  reads = k.reads;
  tokens = k.tokens;
  added = k.added;
  excess = k.excess;
  marks = k.marks;
}

-- One token

abbrev pub calmed : Counts → Counts
calmed k = record k { reads = data_state }

abbrev over_four : Counts → ℕ
over_four k = k.added - 4 * suc k.tokens

abbrev pub ticked : Counts → ℕ → Counts
ticked k n = record k {
  tokens = suc k.tokens;
  excess = if nat_lt k.excess (over_four k) then over_four k else k.excess;
  marks = n;
}

count-is : (b : B.Builder) (p : W.Path) (a : List B.Entry) (m : B.Mode) (s : Bool) (k : Counts) (n : ℕ) →
    record (M.count_token (state b p a m s k)) { marks = n } ≡ state b p a m s (ticked k n)
count-is b p a m s k n = by_test (nat_lt k.excess (over_four k))
  where
    by_test : (v : Bool) → record (if v then record (state b p a m s k) { tokens = suc k.tokens; excess = over_four k } else record (state b p a m s k) { tokens = suc k.tokens }) { marks = n }
        ≡ state b p a m s (record k { tokens = suc k.tokens; excess = if v then over_four k else k.excess; marks = n })
    by_test true = refl
    by_test false = refl

repeated-done : (n : ℕ) (step : B.Builder → B.Outcome) (d : B.Builder) → B.repeated n step (B.Done d) ≡ d
repeated-done zero step d = refl
repeated-done (suc n) step d = refl

enough : (n : ℕ) → (8 + n) ≡ suc (suc (6 + n))
enough n = omega arith

one-step : (n : ℕ) (step : B.Builder → B.Outcome) (c d : B.Builder) → step c ≡ B.Done d → B.repeated (8 + n) step (B.Again c) ≡ d
one-step n step c d e =
    ap (λ j. B.repeated j step (B.Again c)) (enough n)
    ∙ ap (B.repeated (suc (6 + n)) step) e
    ∙ repeated-done (suc (6 + n)) step d

two-steps : (n : ℕ) (step : B.Builder → B.Outcome) (c x d : B.Builder) → step c ≡ B.Again x → step x ≡ B.Done d → B.repeated (8 + n) step (B.Again c) ≡ d
two-steps n step c x d e f =
    ap (λ j. B.repeated j step (B.Again c)) (enough n)
    ∙ ap (B.repeated (suc (6 + n)) step) e
    ∙ ap (B.repeated (6 + n) step) f
    ∙ repeated-done (6 + n) step d

module _ (b : B.Builder) (p : W.Path) (a : List B.Entry) (m : B.Mode) (k : Counts) (t : B.Token) where
  -- a token that a rule is done with at once
  pub token-goes : (q : W.Path) (e : List B.Entry) (n : B.Mode) (s : Bool) (j : Counts) →
      M.dispatch (M.numbered k.marks t) (state b p a m false (calmed k)) ≡ B.Done (state b q e n s j) →
      M.token_done (state b p a m false k) t ≡ state b q e n s (ticked j (M.marks_behind k.marks t))
  token-goes q e n s j h =
      ap (λ (x : B.Builder). record (M.count_token x) { marks = M.marks_behind k.marks t })
      (one-step (2 * length p) (M.dispatch (M.numbered k.marks t)) (state b p a m false (calmed k)) (state b q e n s j) h)
      ∙ count-is b q e n s j (M.marks_behind k.marks t)

  -- and one that is reprocessed once
  pub token-again : (x : B.Builder) (q : W.Path) (e : List B.Entry) (n : B.Mode) (s : Bool) (j : Counts) →
      M.dispatch (M.numbered k.marks t) (state b p a m false (calmed k)) ≡ B.Again x →
      M.dispatch (M.numbered k.marks t) x ≡ B.Done (state b q e n s j) →
      M.token_done (state b p a m false k) t ≡ state b q e n s (ticked j (M.marks_behind k.marks t))
  token-again x q e n s j g h =
      ap (λ (y : B.Builder). record (M.count_token y) { marks = M.marks_behind k.marks t })
      (two-steps (2 * length p) (M.dispatch (M.numbered k.marks t)) (state b p a m false (calmed k)) x (state b q e n s j) g h)
      ∙ count-is b q e n s j (M.marks_behind k.marks t)

  -- what is no line feed is read as ever
  pub token-loud : M.is_line_feed t ≡ false → M.token_done (state b p a m true k) t ≡ M.token_done (state b p a m false k) t
  token-loud h =
      ap (λ (v : Bool). record (M.count_token (if v then state b p a m false (calmed k)
      else B.repeated (M.bound (state b p a m false k)) (M.dispatch (M.numbered k.marks t)) (B.Again (state b p a m false (calmed k))))) { marks = M.marks_behind k.marks t }) h

-- by the rules of the mode

content : (t : Tag) (token : B.Token) → T.is_html t ≡ true → M.is_html_content t token ≡ true
content t (B.a_character c) h = or_left (T.is_html t || T.is_text_integration_point t) _ (or_left (T.is_html t) _ h)
content t (B.a_start g own closes) h = or_left _ _ (or_left _ _ (or_left (T.is_html t) (T.is_html_integration_point t) h))
content t (B.an_end g name) h = h
content t (B.a_comment own) h = h
content t (B.a_doctype own) h = h
content t B.end_of_file h = refl

pub by-mode : (b : B.Builder) (f : W.Frame) (p : W.Path) (a : List B.Entry) (m : B.Mode) (s : Bool) (k : Counts) (token : B.Token) → T.is_html f.tag ≡ true →
    M.dispatch token (state b (f ∷ p) a m s k) ≡ M.mode_step m (state b (f ∷ p) a m s k) token
by-mode b f p a m s k token h =
    ap (λ (v : Bool). if v then M.mode_step m (state b (f ∷ p) a m s k) token else M.foreign_step (state b (f ∷ p) a m s k) token) (content f.tag token h)

-- Nodes

-- a frame that took these in
abbrev pub grown : W.Frame → W.Nodes → W.Frame
grown f nodes = W.with_nodes nodes (W.caught_up f)

abbrev pub said_more : Marked (List ℕ) → Marked (List ℕ) → Marked (List ℕ)
said_more own more = record own { said = own.said ++ more.said }

pub text-text : (nodes : W.Nodes) (own more : Marked (List ℕ)) → W.with_text (W.with_text nodes own) more ≡ W.with_text nodes (said_more own more)
text-text W.no_nodes own more = refl
text-text (W.and_text nodes first) own more = ap (λ (zs : List ℕ). W.and_text nodes (record first { said = zs })) (append_assoc first.said own.said more.said)
text-text (W.and_comment nodes first) own more = refl
text-text (W.and_doctype nodes first) own more = refl
text-text (W.and_element nodes tag below) own more = refl

pub text-behind : (nodes more : W.Nodes) (own : Marked (List ℕ)) → W.with_text (W.joined nodes more) own ≡ W.joined nodes (W.with_text more own)
text-behind nodes W.no_nodes own = refl
text-behind nodes (W.and_text more first) own = text-text (W.joined nodes more) first own
text-behind nodes (W.and_comment more first) own = refl
text-behind nodes (W.and_doctype more first) own = refl
text-behind nodes (W.and_element more tag below) own = refl

-- text is put in
pub text-put : (f : W.Frame) (p : W.Path) (nodes : W.Nodes) (own : Marked (List ℕ)) →
    W.put W.here (W.and_text W.no_nodes own) (grown f nodes ∷ p) ≡ grown f (W.with_text nodes own) ∷ p
text-put f p nodes own = ap (λ (x : W.Nodes). record f { children = x; waiting = W.no_nodes } ∷ p) (text-behind (W.joined f.children f.waiting) nodes own)

-- Active formatting elements

-- the first entry is open
abbrev pub IsStill : List B.Entry → List ℕ → Type 0
IsStill [] ns = ⊤
IsStill (B.marker ∷ es) ns = ⊤
IsStill (B.formatting n t ∷ es) ns = has ns n ≡ true

-- so nothing is opened again
pub still : (b : B.Builder) (p : W.Path) (a : List B.Entry) (m : B.Mode) (s : Bool) (k : Counts) → IsStill a (numbers p) →
    F.reconstruct_formatting (state b p a m s k) ≡ state b p a m s k
still b p [] m s k h = refl
still b p (B.marker ∷ es) m s k h = refl
still b p (B.formatting n t ∷ es) m s k h =
    let c : B.Builder = state b p (B.formatting n t ∷ es) m s k in
    ap (λ (v : Bool). elim v as (λ _. B.Builder) [
      | true ↦ record c { active = B.formatting n t ∷ es }
      | false ↦ F.reopen t (F.reopen_each c es)
    ]) (open-numbers n p ∙ h)

-- the entries of elements of a print, before those around it
pub data Active (base : List B.Entry) : List B.Entry → List Inner → Type 0 where
  over : Active base base []
  marked : {i : Inner} {es : List B.Entry} {is : List Inner} → Y.is_mark i.own.name ≡ true → Active base es is → Active base (B.marker ∷ es) (i ∷ is)
  kept : {i : Inner} {es : List B.Entry} {is : List Inner} → Y.is_mark i.own.name ≡ false → is_active (G.group i.own.name) ≡ true → Active base es is →
      Active base (B.formatting i.number (tag_in i) ∷ es) (i ∷ is)
  skipped : {i : Inner} {es : List B.Entry} {is : List Inner} → Y.is_mark i.own.name ≡ false → Active base es is → Active base es (i ∷ is)

-- the entries after an element of a group was opened
abbrev pub entries_after : G.Group → ℕ → Tag → List B.Entry → List B.Entry
entries_after G.a_mark n t es = B.marker ∷ es
entries_after G.a_caption n t es = B.marker ∷ es
entries_after G.a_cell n t es = B.marker ∷ es
entries_after G.an_anchor n t es = B.formatting n t ∷ F.with_room t es
entries_after G.a_format n t es = B.formatting n t ∷ F.with_room t es
entries_after G.a_nobr n t es = B.formatting n t ∷ F.with_room t es
entries_after _ n t es = es

other_number : (j k : ℕ) → j < k → (j == k) ≡ false
other_number j k h = grind (arith, nat_tests)

still-more : (es : List B.Entry) (n : ℕ) (ns : List ℕ) → IsStill es ns → IsStill es (n ∷ ns)
still-more [] n ns h = tt
still-more (B.marker ∷ es) n ns h = tt
still-more (B.formatting k t ∷ es) n ns h = or_right (n == k) (has ns k) h

module _ (base : List B.Entry) (none : has_no_active base ≡ true) where
  base-still : (es : List B.Entry) (ns : List ℕ) → has_no_active es ≡ true → IsStill es ns
  base-still [] ns h = tt
  base-still (B.marker ∷ es) ns h = tt
  base-still (B.formatting n t ∷ es) ns h = absurd (true≢false (sym h))

  pub are-still : {es : List B.Entry} {is : List Inner} (outer : List ℕ) → Active base es is → IsStill es (numbers_of outer is)
  are-still outer over = base-still base outer none
  are-still outer (marked m s) = tt
  are-still outer (kept {i} {es} {is} m a s) = or_left (i.number == i.number) (has (numbers_of outer is) i.number) (same_number i.number)
  are-still outer (skipped {i} {es} {is} m s) = still-more es i.number (numbers_of outer is) (are-still outer s)

  base-none : (n : List ℕ) (es : List B.Entry) → has_no_active es ≡ true → F.listed n es ≡ None
  base-none n [] h = refl
  base-none n (B.marker ∷ es) h = refl
  base-none n (B.formatting k t ∷ es) h = absurd (true≢false (sym h))

  pub none-listed : {es : List B.Entry} {is : List Inner} (n : List ℕ) → Active base es is → P.within (bytes_eq n) Y.is_mark (names_of is) ≡ false → F.listed n es ≡ None
  none-listed n over h = base-none n base none
  none-listed n (marked m s) h = refl
  none-listed n (kept {i} {es} {is} m a s) h =
      let two = or_parts (bytes_eq n i.own.name) (not (Y.is_mark i.own.name) && P.within (bytes_eq n) Y.is_mark (names_of is)) h in
      cond-false (bytes_eq n i.own.name) _ _ two.0
      ∙ none-listed n s (sym (ap (λ x. not x && P.within (bytes_eq n) Y.is_mark (names_of is)) m) ∙ two.1)
  none-listed n (skipped {i} {es} {is} m s) h =
      let two = or_parts (bytes_eq n i.own.name) (not (Y.is_mark i.own.name) && P.within (bytes_eq n) Y.is_mark (names_of is)) h in
      none-listed n s (sym (ap (λ x. not x && P.within (bytes_eq n) Y.is_mark (names_of is)) m) ∙ two.1)

  -- the Noah's Ark clause takes none of those around away
  base-earliest : (t : Tag) (es : List B.Entry) → has_no_active es ≡ true → F.without_earliest t es ≡ es
  base-earliest t [] h = refl
  base-earliest t (B.marker ∷ es) h = refl
  base-earliest t (B.formatting k u ∷ es) h = absurd (true≢false (sym h))

  earliest : {es : List B.Entry} {is : List Inner} (t : Tag) → Active base es is → Active base (F.without_earliest t es) is
  earliest t over = subst (λ es. Active base es []) (sym (base-earliest t base none)) over
  earliest t (marked m s) = marked m s
  earliest t (kept {i} {es} {is} m a s) =
      elim (cases_Bool (F.is_alike t (tag_in i) && (F.alike_count t es == 0))) [
        | inl y ↦ subst (λ (x : List B.Entry). Active base x (i ∷ is)) (sym (ap (λ (v : Bool). if v then es else B.formatting i.number (tag_in i) ∷ F.without_earliest t es) y)) (skipped m s)
        | inr n ↦ subst (λ (x : List B.Entry). Active base x (i ∷ is)) (sym (ap (λ (v : Bool). if v then es else B.formatting i.number (tag_in i) ∷ F.without_earliest t es) n)) (kept m a (earliest t s))
      ]
  earliest t (skipped m s) = skipped m (earliest t s)

  room : {is : List Inner} (t : Tag) (es : List B.Entry) → Active base es is → Active base (F.with_room t es) is
  room {is} t es s =
      elim (cases_Bool (nat_lt 2 (F.alike_count t es))) [
        | inl y ↦ subst (λ (x : List B.Entry). Active base x is) (sym (ap (λ (v : Bool). if v then F.without_earliest t es else es) y)) (earliest t s)
        | inr n ↦ subst (λ (x : List B.Entry). Active base x is) (sym (ap (λ (v : Bool). if v then F.without_earliest t es else es) n)) s
      ]

  pub entered : (g : G.Group) (i : Inner) (es : List B.Entry) (is : List Inner) → G.group i.own.name ≡ g → Active base es is → Active base (entries_after g i.number (tag_in i) es) (i ∷ is)
  entered G.an_anchor i es is h s = kept (ap Y.is_mark_group h) (ap is_active h) (room (tag_in i) es s)
  entered G.a_format i es is h s = kept (ap Y.is_mark_group h) (ap is_active h) (room (tag_in i) es s)
  entered G.a_nobr i es is h s = kept (ap Y.is_mark_group h) (ap is_active h) (room (tag_in i) es s)
  entered G.a_mark i es is h s = marked (ap Y.is_mark_group h) s
  entered G.a_caption i es is h s = marked (ap Y.is_mark_group h) s
  entered G.a_cell i es is h s = marked (ap Y.is_mark_group h) s
  entered _ i es is h s = skipped (ap Y.is_mark_group h) s

-- numbers fall from the innermost element outwards, and those around are lower
abbrev pub Ordered : ℕ → ℕ → List Inner → Type 0
Ordered low k [] = low ≤ k
Ordered low k (i ∷ is) = (i.number < k) × Ordered low i.number is

pub Ordered-up : (low j k : ℕ) (is : List Inner) → j ≤ k → Ordered low j is → Ordered low k is
Ordered-up low j k [] h o = omega (arith, h, o)
Ordered-up low j k (i ∷ is) h o = (omega (arith, h, o.0), o.1)

base-unlisted : (low k : ℕ) (es : List B.Entry) → are_given low es ≡ true → low ≤ k → F.is_listed k es ≡ false
base-unlisted low k [] h l = refl
base-unlisted low k (B.marker ∷ es) h l = base-unlisted low k es h l
base-unlisted low k (B.formatting n t ∷ es) h l =
    let two = and_parts (nat_lt n low) (are_given low es) h in
    let below : n < low = ltb-true n low two.0 in
    or_from (n == k) (F.is_listed k es) (other_number n k (omega (arith, below, l))) (base-unlisted low k es two.1 l)

module _ (base : List B.Entry) (low : ℕ) (given : are_given low base ≡ true) where
  -- a number that is above all open ones is not listed
  pub not-listed : {es : List B.Entry} {is : List Inner} (k j : ℕ) → j ≤ k → Ordered low j is → Active base es is → F.is_listed k es ≡ false
  not-listed k j h o over = base-unlisted low k base given (omega (arith, h, o))
  not-listed k j h o (marked {i} m s) = not-listed k i.number (omega (arith, h, o.0)) o.1 s
  not-listed k j h o (kept {i} {es} m a s) =
      or_from (i.number == k) (F.is_listed k es) (other_number i.number k (omega (arith, h, o.0))) (not-listed k i.number (omega (arith, h, o.0)) o.1 s)
  not-listed k j h o (skipped {i} m s) = not-listed k i.number (omega (arith, h, o.0)) o.1 s

-- an element that is no formatting one is not listed
pub plain-left : {base es : List B.Entry} {i : Inner} {is : List Inner} → Y.is_mark i.own.name ≡ false → is_active (G.group i.own.name) ≡ false → Active base es (i ∷ is) → Active base es is
plain-left m v (marked y s) = absurd (true≢false (sym y ∙ m))
plain-left m v (kept n a s) = absurd (true≢false (sym a ∙ v))
plain-left m v (skipped n s) = s

-- what an element marked goes with it
pub marked-left : {base es : List B.Entry} {i : Inner} {is : List Inner} → Y.is_mark i.own.name ≡ true → Active base es (i ∷ is) → Active base (B.without_last_marker es) is
marked-left m (marked y s) = s
marked-left m (kept n a s) = absurd (true≢false (sym m ∙ n))
marked-left m (skipped n s) = absurd (true≢false (sym m ∙ n))
