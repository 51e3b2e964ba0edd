-- Texts whose white space is collapsed: what stands in a line with one space between two words is
-- written as it is.
use Rattle.memchr.specs.Find.{IsFirstByte, is_byte3}
use Rattle.std.proofs.Common.{Bool, List, None, Option, Some, [], ap, ap₂, append_assoc, arith, drop, false, get_or, inl, inr, length, not, refl, suc, sym, take, true, zero, ℕ, ◌&&◌, ◌-◌, ◌++◌, ◌<◌, ◌==◌, ◌||◌, ◌∙◌, ◌≡◌, ◌∷◌}
use Rattle.std.proofs.lemmas.Bool.{and_parts, cases_Bool, cond-true, eqb-true, false_from_ne_true}
use Rattle.std.proofs.lemmas.List.{map-append, take-append-drop}
use Rattle.std.proofs.lemmas.List.Sums.{position_or_len_is}
use Rattle.std.specs.List.{list_all, prefix_len}
use Rattle.std.specs.Option.{unwrap_or}
use Rattle.tl_tree_extract.proofs.Flows.{after-append, after-byte, byte-written, front-plain, mark-stops, written-append}
use Rattle.tl_tree_extract.specs.Flowing.{Item, a_space, after_item, after_items, ahead, in_line, is_break, is_white, item_of, text_items, with_space, written}
use Rattle.tl_tree_extract.specs.Inner.Runs.{after_run, apart, has_idle_space, is_plain, past_white, run_written}
use Rattle.tl_tree_extract.specs.declared.text.flow.Flow.{Flow}
use Rattle.tl_tree_extract.specs.declared.text.flow.Gap.{Gap}
use Rattle.tl_tree_extract.specs.declared.text.flow.Gap.TheVariants.{Apart, Behind, LineStart}
use Rattle.tl_tree_extract.specs.declared.text.flow.Lines.TheVariants.{NoLine}

either-false : (a b : Bool) → a || b ≡ false → (a ≡ false) × (b ≡ false)
either-false true b e = cc
either-false false b e = (refl, e)

not-both : (a b : Bool) → a ≡ true → b ≡ true → (a && b) ≡ true
not-both true b e f = f
not-both false b e f = cc

idle-tail : (b : ℕ) (s : List ℕ) → has_idle_space (b ∷ s) ≡ false → has_idle_space s ≡ false
idle-tail b [] e = refl
idle-tail b (c ∷ s) e = (either-false (b == 32 && c == 32) (has_idle_space (c ∷ s)) e).1

-- a line in which a space may be due
abbrev due : Bool → Gap
due true = Apart
due false = Behind

abbrev line-with : Flow → Bool → Flow
line-with f p = record { lines = NoLine; gap = due p; seam = f.seam }

abbrev with-due : Bool → List ℕ → List ℕ
with-due true s = 32 ∷ s
with-due false s = s

as-space : (b : ℕ) → b == 32 ≡ true → item_of false b ≡ a_space
as-space b e = ap (item_of false) (eqb-true b 32 e)

is-plain : (b : ℕ) → b == 32 ≡ false → not (is_break b) ≡ true → is_plain false b ≡ true
is-plain b e f = ap (λ v. not (v || is_break b)) e ∙ f

idle-due : (p : Bool) (b : ℕ) (s : List ℕ) → has_idle_space (with-due p (b ∷ s)) ≡ false → has_idle_space s ≡ false
idle-due true b s e = idle-tail b s (idle-tail 32 (b ∷ s) e)
idle-due false b s e = idle-tail b s e

two-spaces : (b : ℕ) (s : List ℕ) → b == 32 ≡ true → has_idle_space (32 ∷ b ∷ s) ≡ false → true ≡ false
two-spaces b s e f = sym e ∙ (either-false (b == 32) (has_idle_space (b ∷ s)) f).0

due-written : (p : Bool) (f : Flow) (b : ℕ) (s : List ℕ) → is_plain false b ≡ true → written (in_line f) (text_items false s) ≡ s →
    written (line-with f p) (text_items false (b ∷ s)) ≡ with-due p (b ∷ s)
due-written true f b s e h =
    ap (λ v. v ++ written (after_item (line-with f true) (item_of false b)) (text_items false s)) (byte-written false (line-with f true) b e)
    ∙ ap (λ (g : Flow). 32 ∷ b ∷ written g (text_items false s)) (after-byte false (line-with f true) b e)
    ∙ ap (λ v. 32 ∷ b ∷ v) h
due-written false f b s e h =
    ap (λ v. v ++ written (after_item (line-with f false) (item_of false b)) (text_items false s)) (byte-written false (line-with f false) b e)
    ∙ ap (λ (g : Flow). b ∷ written g (text_items false s)) (after-byte false (line-with f false) b e)
    ∙ ap (λ v. b ∷ v) h

space-written : (p : Bool) (f : Flow) (b : ℕ) (s : List ℕ) → b == 32 ≡ true → has_idle_space (with-due p (b ∷ s)) ≡ false →
    (has_idle_space (32 ∷ s) ≡ false → (written (line-with f true) (text_items false s) ≡ 32 ∷ s) × (after_items (line-with f true) (text_items false s) ≡ in_line f)) →
    (written (line-with f p) (text_items false (b ∷ s)) ≡ with-due p (b ∷ s)) × (after_items (line-with f p) (text_items false (b ∷ s)) ≡ in_line f)
space-written true f b s e i h = absurd (let both = two-spaces b s e i in let no : ⊥ = cc in no)
space-written false f b s e i h =
    let space : b ≡ 32 = eqb-true b 32 e in
    let more = h (ap (λ v. has_idle_space (v ∷ s)) (sym space) ∙ i) in (
      ap (λ (item : Item). written (line-with f false) (item ∷ text_items false s)) (as-space b e) ∙ more.0 ∙ ap (λ v. v ∷ s) (sym space),
      ap (λ (item : Item). after_items (line-with f false) (item ∷ text_items false s)) (as-space b e) ∙ more.1,
    )

single-line : (p : Bool) (f : Flow) (s : List ℕ) → list_all (λ b. not (is_break b)) s ≡ true → has_idle_space (with-due p s) ≡ false →
    (written (line-with f p) (text_items false s) ≡ with-due p s) × (after_items (line-with f p) (text_items false s) ≡ in_line f)
single-line true f [] h i = absurd (let no : ⊥ = cc in no)
single-line false f [] h i = (refl, refl)
single-line p f (b ∷ s) h i =
    let q = and_parts (not (is_break b)) (list_all (λ b. not (is_break b)) s) h in
    elim (cases_Bool (b == 32)) [
      | inl space ↦ space-written p f b s space i (single-line true f s q.1)
      | inr other ↦
          let plain = is-plain b other q.0 in
          let more = single-line false f s q.1 (idle-due p b s i) in (
            due-written p f b s plain more.0,
            ap (λ (g : Flow). after_items g (text_items false s)) (after-byte false (line-with f p) b plain) ∙ more.1,
          )
    ]

pub single-part : (f : Flow) (s : List ℕ) → list_all (λ b. not (is_break b)) s ≡ true → is_white (get_or s 0 32) ≡ false → has_idle_space s ≡ false →
    (written f (text_items false s) ≡ run_written f s) × (after_items f (text_items false s) ≡ after_run f s)
single-part f [] h w i = absurd (let no : ⊥ = cc in no)
single-part f (b ∷ s) h w i =
    let q = and_parts (not (is_break b)) (list_all (λ b. not (is_break b)) s) h in
    let plain : is_plain false b ≡ true = ap not w in
    let more = single-line false f s q.1 (idle-tail b s i) in (
      ap (λ v. v ++ written (after_item f (item_of false b)) (text_items false s)) (byte-written false f b plain)
          ∙ ap (λ (g : Flow). (ahead f ++ b ∷ []) ++ written g (text_items false s)) (after-byte false f b plain)
          ∙ ap (λ v. (ahead f ++ b ∷ []) ++ v) more.0
          ∙ append_assoc (ahead f) (b ∷ []) s,
      ap (λ (g : Flow). after_items g (text_items false s)) (after-byte false f b plain) ∙ more.1,
    )

-- White space

twice-apart : (f : Flow) (w : List ℕ) → past_white (apart f) w ≡ apart f
twice-apart f [] = refl
twice-apart f (b ∷ w) = one f.gap
  where
    one : (g : Gap) → ◌≡◌ {A = Flow} (record { lines = f.lines; gap = with_space (with_space g); seam = f.seam }) (record { lines = f.lines; gap = with_space g; seam = f.seam })
    one LineStart = refl
    one Behind = refl
    one Apart = refl

white-item : (b : ℕ) → is_white b ≡ true → item_of false b ≡ a_space
white-item b e = cond-true (is_white b) _ _ e

pub white-written : (f : Flow) (w : List ℕ) → list_all is_white w ≡ true → (written f (text_items false w) ≡ []) × (after_items f (text_items false w) ≡ past_white f w)
white-written f [] h = (refl, refl)
white-written f (b ∷ w) h =
    let q = and_parts (is_white b) (list_all is_white w) h in
    let more = white-written (apart f) w q.1 in (
      ap (λ (item : Item). written f (item ∷ text_items false w)) (white-item b q.0) ∙ more.0,
      ap (λ (item : Item). after_items f (item ∷ text_items false w)) (white-item b q.0) ∙ more.1 ∙ twice-apart f w,
    )

-- a text in two parts
pub two-parts : (f : Flow) (s x y : List ℕ) (n : ℕ) → x ≡ take n s → y ≡ drop n s →
    (written f (text_items false s) ≡ written f (text_items false x) ++ written (after_items f (text_items false x)) (text_items false y))
    × (after_items f (text_items false s) ≡ after_items (after_items f (text_items false x)) (text_items false y))
two-parts f s x y n front back =
    let whole : s ≡ x ++ y = sym (take-append-drop n s) ∙ ap₂ (λ u v. u ++ v) (sym front) (sym back) in
    let items : text_items false s ≡ text_items false x ++ text_items false y = ap (text_items false) whole ∙ map-append (item_of false) x y in (
      ap (written f) items ∙ written-append f (text_items false x) (text_items false y),
      ap (after_items f) items ∙ after-append f (text_items false x) (text_items false y),
    )

pub past-text : (f g : Flow) (s white words : List ℕ) (n : ℕ) → n ≡ prefix_len is_white s → white ≡ take n s → words ≡ drop n s → g ≡ past_white f white →
    (written f (text_items false s) ≡ written g (text_items false words)) × (after_items f (text_items false s) ≡ after_items g (text_items false words))
past-text f g s white words n e front back is =
    let all : list_all is_white white ≡ true = ap (list_all is_white) (front ∙ ap (λ m. take m s) e) ∙ front-plain is_white s in
    let none = white-written f white all in
    let parts = two-parts f s white words n front back in (
      parts.0
          ∙ ap (λ v. v ++ written (after_items f (text_items false white)) (text_items false words)) none.0
          ∙ ap (λ (h : Flow). written h (text_items false words)) (none.1 ∙ sym is),
      parts.1 ∙ ap (λ (h : Flow). after_items h (text_items false words)) (none.1 ∙ sym is),
    )

filled-parts : (s : List ℕ) → 0 < length s → s ≡ get_or s 0 32 ∷ drop 1 s
filled-parts [] h = absurd (omega arith)
filled-parts (b ∷ s) h = refl

pub empty-words : (s : List ℕ) (r : Bool) → r ≡ (length s == 0) → r ≡ true → s ≡ []
empty-words [] r e f = refl
empty-words (b ∷ s) r e f = absurd (let no : ⊥ = cc (eqb-true (suc (length s)) 0 (sym e ∙ f)) in no)

some-words : (s : List ℕ) (r : Bool) → r ≡ (length s == 0) → r ≡ false → 0 < length s
some-words [] r e f = absurd (let no : ⊥ = cc in no)
some-words (b ∷ s) r e f = omega arith

pub word-begins : (s words : List ℕ) (n : ℕ) → n ≡ prefix_len is_white s → words ≡ drop n s → (r : Bool) → r ≡ (length words == 0) → r ≡ false → is_white (get_or words 0 32) ≡ false
word-begins s words n e back r is other =
    mark-stops is_white s (get_or words 0 32) (drop 1 words) (ap (λ m. drop m s) (sym e) ∙ sym back ∙ filled-parts words (some-words words r is other))

pub front-begins : (words part : List ℕ) (n : ℕ) → part ≡ take n words → 0 < n → is_white (get_or words 0 32) ≡ false → is_white (get_or part 0 32) ≡ false
front-begins words part n front some e = ap (λ v. is_white (get_or v 0 32)) front ∙ one words n some e
  where
    one : (s : List ℕ) (k : ℕ) → 0 < k → is_white (get_or s 0 32) ≡ false → is_white (get_or (take k s) 0 32) ≡ false
    one [] zero h w = absurd (omega arith)
    one [] (suc k) h w = w
    one (b ∷ s) zero h w = absurd (omega arith)
    one (b ∷ s) (suc k) h w = w

-- How long a part is

pub part-end : (s : List ℕ) (r : Option ℕ) → IsFirstByte (is_byte3 10 9 13) s r → unwrap_or r (length s) ≡ prefix_len (λ b. not (is_break b)) s
part-end s None none =
    sym (position_or_len_is is_break s (length s) 0 (omega arith) (λ k l. false_from_ne_true (is_break (get_or s k 0)) (none k (omega arith) l)) (λ l. absurd (omega arith)))
part-end s (Some i) found =
    let inside = found.0.high in
    sym (position_or_len_is is_break s i 0 (omega arith) (λ k l. false_from_ne_true (is_break (get_or s k 0)) (found.0.before k (omega arith) l)) (λ l. found.1))

pub part-plain : (s : List ℕ) (n : ℕ) → n ≡ prefix_len (λ b. not (is_break b)) s → list_all (λ b. not (is_break b)) (take n s) ≡ true
part-plain s n e = ap (λ m. list_all (λ b. not (is_break b)) (take m s)) e ∙ front-plain (λ b. not (is_break b)) s

one-less : (p : ℕ → Bool) (n : ℕ) (s : List ℕ) → list_all p (take (suc n) s) ≡ true → list_all p (take n s) ≡ true
one-less p zero s h = refl
one-less p (suc n) [] h = refl
one-less p (suc n) (b ∷ s) h =
    let q = and_parts (p b) (list_all p (take (suc n) s)) h in
    not-both (p b) (list_all p (take n s)) q.0 (one-less p n s q.1)

pub part-less : (s : List ℕ) (n : ℕ) → 1 < n → n ≡ prefix_len (λ b. not (is_break b)) s → list_all (λ b. not (is_break b)) (take (n - 1) s) ≡ true
part-less s n h e =
    let more : n ≡ suc (n - 1) = omega arith in
    one-less (λ b. not (is_break b)) (n - 1) s (ap (λ m. list_all (λ b. not (is_break b)) (take m s)) (sym more) ∙ part-plain s n e)
