-- What is left open before each piece, and the end tags that are put in there.
use Rattle.std.proofs.Common.{◌≡◌, ◌≤◌, ◌<◌, ℕ, zero, suc, Bool, true, false, List, [], ◌∷◌, ◌++◌, length, get_or, set, replicate, map, Option, Some, None, refl, ap, ap₂, sym, ◌∙◌, append_assoc, append-nil, arith, if◌then◌else◌}
use Rattle.std.specs.Prelude.{option_map}
use Rattle.std.specs.List.{All}
use Rattle.std.specs.Option.{option_to_list}
use Rattle.std.proofs.lemmas.List.{map-append}
use Rattle.std.proofs.lemmas.List.Elements.{All-append, All-cons, All-nil}
use Rattle.tl_patch_spec.specs.Elements.{OpenElement}
use Rattle.tl_patch_spec.specs.LeftOpen.{Closing, ElementAt, LeftOpen, closed_all, closed_at, closed_before, closed_behind, closes_before, closing_at, closings, content_end, ended_with, ends_element, is_left_open, no_element, none_open, open_at, open_with, takes_inside, closed_if, with_inside, with_open, without_inside, without_own}
use Rattle.tl_patch_spec.specs.Patches.{Alone, Dropped, Extent, Implied, Patch, Unclosed, Whole}
use Rattle.tl_patch_spec.specs.Together.{Asked, Turn, asked_at, end_tag_at, end_tags, turn_of}
use Rattle.tl_patch_edit.specs.Asks.{inner_end, inside_end, placed_at, placed_view, planned_view}
use Rattle.tl_patch_edit.specs.Open.{AreNone, ArePushed, ArePutIn, IsOf, all_view, closing_asks, closing_view, end_tag_asks, left_view, one_view, open_of, open_view}
use Rattle.tl_patch_edit.specs.Several.{asked_one, asked_view}
use Rattle.tl_patch_edit.specs.View.{patch_view, turn_view}
use Rattle.tl_patch_edit.specs.declared.ask.Ask.{Ask}
use Rattle.tl_patch_edit.specs.declared.ask.MeantPatch.{MeantPatch}
use Rattle.tl_patch_edit.specs.declared.ask.PlacedAsk.{PlacedAsk}
use Rattle.tl_patch_edit.specs.declared.ask.Planned.{Planned}
use Rattle.tl_patch_edit.specs.declared.ask.Start.{Start}
use Rattle.tl_patch_edit.specs.declared.ask.Turn.{Turn as CodeTurn}
use Rattle.tl_patch_edit.specs.declared.left_open.Closing.{Closing as CodeClosing}
use Rattle.tl_patch_edit.specs.declared.left_open.LeftOpen.{LeftOpen as CodeLeft}
use Rattle.tl_patch_edit.specs.declared.left_open.OpenElement.{OpenElement as CodeOpen}
use Rattle.tl_patch_edit.proofs.Together.{placed_asked}

-- a table of elements

map_set : {X Y : Type 0} (f : X → Y) (xs : List X) (n : ℕ) (x : X) → map f (set xs n x) ≡ set (map f xs) n (f x)
map_set f [] n x = refl
map_set f (y ∷ ys) zero x = refl
map_set f (y ∷ ys) (suc n) x = ap (λ zs. f y ∷ zs) (map_set f ys n x)

pub set_viewed : (left new : List (Option CodeOpen)) (n : ℕ) (o : Option CodeOpen) → new ≡ set left n o → all_view new ≡ set (all_view left) n (open_view o)
set_viewed left new n o e = ap all_view e ∙ map_set open_view left n o

none_viewed : (left : List (Option CodeOpen)) → AreNone left → all_view left ≡ replicate (length left) None
none_viewed [] h = refl
none_viewed (o ∷ left) h = ap₂ (λ (x : Option OpenElement) (xs : ElementAt). x ∷ xs) (ap open_view (h 0 o (omega arith))) (none_viewed left (λ k d l. h (suc k) d (omega arith)))

none_all : (left : List (Option CodeOpen)) (len : ℕ) → AreNone left → length left ≡ suc len → all_view left ≡ no_element len
none_all left len h e = none_viewed left h ∙ ap (λ n. replicate n None) e

abbrev pub left_of : ElementAt → ElementAt → ElementAt → LeftOpen
left_of before inside own = record { before = before; inside = inside; own = own }

left_same : (b c i j o p : ElementAt) → b ≡ c → i ≡ j → o ≡ p → left_of b i o ≡ left_of c j p
left_same b c i j o p e f g = ap₂ (λ (x y : ElementAt). left_of x y o) e f ∙ ap (λ (x : ElementAt). left_of c j x) g

pub none_left : (b i o : List (Option CodeOpen)) (len : ℕ) → AreNone b → length b ≡ suc len → AreNone i → length i ≡ suc len → AreNone o → length o ≡ suc len →
    left_of (all_view b) (all_view i) (all_view o) ≡ none_open len
none_left b i o len hb lb hi li ho lo = left_same (all_view b) (no_element len) (all_view i) (no_element len) (all_view o) (no_element len) (none_all b len hb lb) (none_all i len hi li) (none_all o len ho lo)

pub open_got : (left : List (Option CodeOpen)) (n : ℕ) (d : Option CodeOpen) → n < length left → get_or left n d ≡ open_of left n
open_got [] n d l = absurd (omega arith)
open_got (o ∷ left) zero d l = refl
open_got (o ∷ left) (suc n) d l = open_got left n d (omega arith)

pub open_past : (left : List (Option CodeOpen)) (n : ℕ) → length left ≤ n → None ≡ open_of left n
open_past [] n l = refl
open_past (o ∷ left) zero l = absurd (omega arith)
open_past (o ∷ left) (suc n) l = open_past left n (omega arith)

pub open_viewed : (left : List (Option CodeOpen)) (n : ℕ) → open_view (open_of left n) ≡ open_at (all_view left) n
open_viewed [] n = refl
open_viewed (o ∷ left) zero = refl
open_viewed (o ∷ left) (suc n) = open_viewed left n

pub open_seen : (left seen : List (Option CodeOpen)) (n : ℕ) (o : Option CodeOpen) → o ≡ open_of seen n → seen ≡ left → open_view o ≡ open_at (all_view left) n
open_seen left seen n o e q = ap open_view (e ∙ ap (λ (xs : List (Option CodeOpen)). open_of xs n) q) ∙ open_viewed left n

-- elements, one by one

pub inside_with : (b i o new : List (Option CodeOpen)) (e : CodeOpen) (m : ℕ) (inner : Option CodeOpen) → inner ≡ open_of b m → all_view new ≡ set (all_view i) e.start (open_view inner) →
    left_of (all_view b) (all_view new) (all_view o) ≡ with_inside (one_view e) m (left_of (all_view b) (all_view i) (all_view o))
inside_with b i o new e m inner q h =
    left_same (all_view b) (all_view b) (all_view new) (set (all_view i) e.start (open_at (all_view b) m)) (all_view o) (all_view o) refl
    (h ∙ ap (λ (x : Option OpenElement). set (all_view i) e.start x) (ap open_view q ∙ open_viewed b m)) refl

pub both_with : (b i o before own : List (Option CodeOpen)) (e : CodeOpen) (m : ℕ) → all_view before ≡ set (all_view b) m (Some (one_view e)) → all_view own ≡ set (all_view o) e.start (Some (one_view e)) →
    left_of (all_view before) (all_view i) (all_view own) ≡ with_open (one_view e) m (left_of (all_view b) (all_view i) (all_view o))
both_with b i o before own e m h k =
    left_same (all_view before) (set (all_view b) m (Some (one_view e))) (all_view i) (all_view i) (all_view own) (set (all_view o) e.start (Some (one_view e))) h refl k

pub ended_open : (o : OpenElement) (m : ℕ) (left : LeftOpen) (v : Bool) → v ≡ true → with_open o m (with_inside o m left) ≡ ended_with o m v left
ended_open o m left v e = sym (ap (λ (w : Bool). ended_with o m w left) e)

pub ended_shut : (o : OpenElement) (m : ℕ) (left : LeftOpen) (v : Bool) → v ≡ false → with_inside o m left ≡ ended_with o m v left
ended_shut o m left v e = sym (ap (λ (w : Bool). ended_with o m w left) e)

some_same : (n m : ℕ) → Some n ≡ Some m → n ≡ m
some_same n m e = cc

pub open_with_end : (o : OpenElement) (extent : Extent) (m : ℕ) (left : LeftOpen) → inside_end extent ≡ Some m → open_with o extent left ≡ ended_with o m (is_left_open extent o.0) left
open_with_end o Dropped m left e = cc
open_with_end o Alone m left e = cc
open_with_end o (Whole n) m left e = ap (λ (k : ℕ). ended_with o k false left) (some_same n m e)
open_with_end o (Implied n) m left e = ap (λ (k : ℕ). ended_with o k (is_left_open (Implied n) o.0) left) (some_same n m e)
open_with_end o (Unclosed n) m left e = ap (λ (k : ℕ). ended_with o k true left) (some_same n m e)

pub open_with_none : (o : OpenElement) (extent : Extent) (left : LeftOpen) → inside_end extent ≡ None → left ≡ open_with o extent left
open_with_none o Dropped left e = refl
open_with_none o Alone left e = refl
open_with_none o (Whole n) left e = cc
open_with_none o (Implied n) left e = cc
open_with_none o (Unclosed n) left e = cc

-- elements that get their end tags

pub closed_before_is : (patch : Patch) (n : ℕ) (left : LeftOpen) (v : Bool) → closes_before patch ≡ v → closed_before patch n left ≡ (if v then closing_at (Some n) (open_at left.before n) else None)
closed_before_is patch n left v e = ap (λ (w : Bool). if w then closing_at (Some n) (open_at left.before n) else None) e

pub content_ends : (extent : Extent) → inner_end extent ≡ content_end extent
content_ends Dropped = refl
content_ends Alone = refl
content_ends (Whole m) = refl
content_ends (Implied m) = refl
content_ends (Unclosed m) = refl

pub closed_own : (b i o new : List (Option CodeOpen)) (n : ℕ) → all_view new ≡ set (all_view o) n None →
    left_of (all_view b) (all_view i) (all_view new) ≡ closed_at (left_of (all_view b) (all_view i) (all_view o)) n
closed_own b i o new n h = left_same (all_view b) (all_view b) (all_view i) (all_view i) (all_view new) (set (all_view o) n None) refl refl h

tag_asked : (start : Start) (at place : ℕ) (o : Option CodeOpen) → asked_view (end_tag_asks start at place o) ≡ end_tag_at at place (open_view o)
tag_asked start at place None = refl
tag_asked start at place (Some o) = refl

tag_of : (start : Start) (at place : ℕ) (o : Option CodeOpen) → All (IsOf start at) (end_tag_asks start at place o)
tag_of start at place None = All-nil (IsOf start at)
tag_of start at place (Some o) = All-cons (IsOf start at) _ [] (record { same = refl; number = refl }) (All-nil (IsOf start at))

abbrev pub these : Option CodeClosing → List Closing
these c = option_to_list (option_map closing_view c)

closing_asked : (start : Start) (at : ℕ) (c : Option CodeClosing) (left : CodeLeft) → asked_view (closing_asks start at c left) ≡ end_tags at (left_view left) (these c)
closing_asked start at None left = refl
closing_asked start at (Some c) left =
    tag_asked start at c.place (open_of left.own.items (c.of).start) ∙ ap (end_tag_at at c.place) (open_viewed left.own.items (c.of).start)
    ∙ sym (append-nil (end_tag_at at c.place (open_at (all_view left.own.items) (c.of).start)))

closing_of : (start : Start) (at : ℕ) (c : Option CodeClosing) (left : CodeLeft) → All (IsOf start at) (closing_asks start at c left)
closing_of start at None left = All-nil (IsOf start at)
closing_of start at (Some c) left = tag_of start at c.place (open_of left.own.items (c.of).start)

pub no_closing_asked : (start : Start) (at : ℕ) (c : Option CodeClosing) (left : CodeLeft) (asks : List PlacedAsk) → c ≡ None → asks ≡ asks ++ closing_asks start at c left
no_closing_asked start at c left asks e = sym (ap (λ (x : Option CodeClosing). asks ++ closing_asks start at x left) e ∙ append-nil asks)

pub no_closing_closed : (c : Option CodeClosing) (left : LeftOpen) → c ≡ None → left ≡ closed_all left (these c)
no_closing_closed c left e = sym (ap (λ (x : Option CodeClosing). closed_all left (these x)) e)

-- first those of these elements, then those of others

closed_more : (left : LeftOpen) (cs ds : List Closing) → closed_all left (cs ++ ds) ≡ closed_all (closed_all left cs) ds
closed_more left [] ds = refl
closed_more left (c ∷ cs) ds = closed_more (closed_at left (c.of).1) cs ds

tags_more : (at : ℕ) (left : LeftOpen) (cs ds : List Closing) → end_tags at left (cs ++ ds) ≡ end_tags at left cs ++ end_tags at (closed_all left cs) ds
tags_more at left [] ds = refl
tags_more at left (c ∷ cs) ds =
    let tag : List Asked = end_tag_at at c.place (open_at left.own (c.of).1) in
    ap (λ (xs : List Asked). tag ++ xs) (tags_more at (closed_at left (c.of).1) cs ds)
    ∙ sym (append_assoc tag (end_tags at (closed_at left (c.of).1) cs) (end_tags at (closed_all (closed_at left (c.of).1) cs) ds))

pub put_in : (m : MeantPatch) (at : ℕ) (extent : Extent) (left mid new_left : CodeLeft) (asks more new : List PlacedAsk) (before behind : Option CodeClosing) →
    option_map closing_view before ≡ closed_before (patch_view m.patch) m.start.number (left_view left) →
    option_map closing_view behind ≡ closed_behind (patch_view m.patch) m.start.number extent (left_view left) →
    more ≡ asks ++ closing_asks m.start at before left → left_view mid ≡ closed_all (left_view left) (these before) →
    new ≡ more ++ closing_asks m.start at behind mid → left_view new_left ≡ closed_all (left_view mid) (these behind) → ArePutIn m at extent left asks new_left new
put_in m at extent left mid new_left asks more new before behind b i a c d e =
    let first : List PlacedAsk = closing_asks m.start at before left in
    let second : List PlacedAsk = closing_asks m.start at behind mid in
    let all : these before ++ these behind ≡ closings (patch_view m.patch) m.start.number extent (left_view left) =
    ap₂ (λ (x y : Option Closing). option_to_list x ++ option_to_list y) b i in
    record {
      tags = first ++ second;
      is = d ∙ ap (λ (xs : List PlacedAsk). xs ++ second) a ∙ append_assoc asks first second;
      asked = map-append asked_one first second
          ∙ ap₂ (λ (xs ys : List Asked). xs ++ ys) (closing_asked m.start at before left) (closing_asked m.start at behind mid ∙ ap (λ (y : LeftOpen). end_tags at y (these behind)) c)
          ∙ sym (tags_more at (left_view left) (these before) (these behind)) ∙ ap (end_tags at (left_view left)) all;
      of = All-append (IsOf m.start at) first second (closing_of m.start at before left) (closing_of m.start at behind mid);
      remains = e ∙ ap (λ (y : LeftOpen). closed_all y (these behind)) c ∙ sym (closed_more (left_view left) (these before) (these behind)) ∙ ap (closed_all (left_view left)) all;
    }

-- with what a patch asks for

second_of : (start : Start) (t : CodeTurn) (at : ℕ) (o : Option Ask) → t.at ≡ at → All (IsOf start at) (map (placed_at start t) (option_to_list o))
second_of start t at None e = All-nil (IsOf start at)
second_of start t at (Some ask) e = All-cons (IsOf start at) _ [] (record { same = refl; number = e }) (All-nil (IsOf start at))

planned_of : (start : Start) (t : CodeTurn) (at : ℕ) (p : Planned) → t.at ≡ at → All (IsOf start at) (placed_view start t p)
planned_of start t at p e = All-cons (IsOf start at) _ (map (placed_at start t) (option_to_list p.second)) (record { same = refl; number = e }) (second_of start t at p.second e)

pub pushed : (m : MeantPatch) (at : ℕ) (extent : Extent) (planned : Planned) (t : CodeTurn) (left new_left : CodeLeft) (asks more new : List PlacedAsk) →
    turn_view t ≡ turn_of (patch_view m.patch) m.start.number at → more ≡ asks ++ placed_view m.start t planned → ArePutIn m at extent left more new_left new →
    ArePushed m at extent planned left asks new_left new
pushed m at extent planned t left new_left asks more new v e h =
    let own : List PlacedAsk = placed_view m.start t planned in
    let turn : t.at ≡ at = ap (λ (u : Turn). u.at) v in
    record {
      more = own ++ h.tags;
      is = h.is ∙ ap (λ (xs : List PlacedAsk). xs ++ h.tags) e ∙ append_assoc asks own h.tags;
      asked = map-append asked_one own h.tags
          ∙ ap₂ (λ (xs ys : List Asked). xs ++ ys) (placed_asked m.start t planned ∙ ap (λ (u : Turn). map (asked_at u) (planned_view planned)) v) h.asked;
      of = All-append (IsOf m.start at) own h.tags (planned_of m.start t at planned turn) h.of;
      remains = h.remains;
    }

-- without the elements that a patch ends

pub own_without : (patch : Patch) (n : ℕ) (left : LeftOpen) (v : Bool) → ends_element patch ≡ v → (if v then closed_at left n else left) ≡ without_own patch n left
own_without patch n left v e = ap (λ (w : Bool). if w then closed_at left n else left) (sym e)

pub inside_without : (patch : Patch) (n : ℕ) (left : LeftOpen) (v : Bool) → takes_inside patch ≡ v →
    (if v then closed_if left (open_at left.inside n) else left) ≡ without_inside patch n left
inside_without patch n left v e = ap (λ (w : Bool). if w then closed_if left (open_at left.inside n) else left) (sym e)
