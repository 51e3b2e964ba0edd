-- A page with elements changed.
use Rattle.std.proofs.Common.{◌≡◌, ◌≢◌, ◌≤◌, ◌<◌, ℕ, ◌+◌, ◌-◌, ◌==◌, Bool, true, false, List, [], ◌∷◌, ◌++◌, length, suc, drop, get_or, set, map, Option, Some, None, refl, ap, ap₂, sym, subst, ◌∙◌, append_assoc, append-nil, arith, if◌then◌else◌, inl, inr, true≢false}
use Rattle.std.specs.List.{All}
use Rattle.std.specs.List.Sorted.{IsPermutation}
use Rattle.std.specs.Option.{option_to_list}
use Rattle.std.proofs.lemmas.Bool.{cases_Bool, eqb-false, eqb-true, ltb-false, ltb-true, ne_eqb}
use lib.Dec.{ltb}
use Rattle.std.proofs.lemmas.List.{drop_more, get_or-set_other, get_or-set_same, length-set, map-append}
use Rattle.std.proofs.lemmas.List.Elements.{All-cons}
use Rattle.std.proofs.lemmas.List.Sorted.{IsPermutation-map}
use Rattle.tl_html_spec.specs.HtmlTokenizer.{without_mark}
use Rattle.tl_html_spec.specs.Pieces.{Piece, pieces, placed, runs}
use Rattle.tl_html_tokens.specs.Tokens.{AreTokensOf, mark_len}
use Rattle.tl_html_tokens.specs.declared.token.Token.{Token}
use Rattle.tl_patch_spec.specs.Elements.{Element}
use Rattle.tl_patch_spec.specs.LeftOpen.{LeftOpen, closings, open_after}
use Rattle.tl_patch_spec.specs.Patches.{AreAskedOne, Extent, Patch, Put, asked_of, extent_in, extent_of}
use Rattle.tl_patch_spec.specs.Splices.{Splice, are_ordered}
use Rattle.tl_patch_spec.specs.Together.{AreAskedTogether, Asked, Gone, Turn, ask_of, asked_at, asked_each, asked_from, at_each, end_tags, gone_after, is_gone, piece_extent, turn_of, with_asks}
use Rattle.tl_patch_edit.specs.Asks.{ask_view, asks_view, placed_at, placed_view, planned_view}
use Rattle.tl_patch_edit.specs.Found.{IsSplicedPage, IsSplicedPageOf, IsStartAt}
use Rattle.tl_patch_edit.specs.Inner.Parts.{ArePieces, Part}
use Rattle.tl_patch_edit.specs.Seams.{AreSeparated, AreSeparatedFrom}
use Rattle.tl_patch_edit.proofs.Texts.{page_texts}
use Rattle.tl_patch_edit.specs.Several.{AreEdited, AreExtents, AreInTurn, AreMeantAt, AreSorted, BeginAt, IsMeantOfPage, asked_one, asked_view, stands_twice}
use Rattle.tl_patch_edit.specs.View.{extent_view, meant_view, patch_view, patches_view, turn_view}
use Rattle.tl_patch_elements.specs.View.{element_view, elements_view}
use Rattle.tl_patch_elements.specs.declared.found.Element.{Element as CodeElement}
use Rattle.tl_patch_edit.specs.declared.ask.Ask.{Ask}
use Rattle.tl_patch_edit.specs.declared.ask.Extent.{Extent as CodeExtent}
use Rattle.tl_patch_edit.specs.declared.ask.ElementPatch.{ElementPatch}
use Rattle.tl_patch_edit.specs.declared.ask.MeantPatch.{MeantPatch}
use Rattle.tl_patch_edit.specs.declared.ask.PlacedAsk.{PlacedAsk}
use Rattle.tl_patch_edit.specs.declared.ask.PlacedPatch.{PlacedPatch}
use Rattle.tl_patch_edit.specs.declared.ask.Turn.{Turn as CodeTurn}
use Rattle.tl_patch_edit.specs.declared.ask.Planned.{Planned}
use Rattle.tl_patch_edit.specs.declared.ask.Start.{Start}
use Rattle.tl_patch_edit.proofs.Edited.{start_of}
use Rattle.tl_patch_edit.proofs.Turns.{are_put_in_turn}

-- start tags at places

pub meant_more : (tokens : List Token) (patches : List PlacedPatch) (at from : ℕ) (d : PlacedPatch) (m : MeantPatch) (old now : List MeantPatch) → at < length patches →
    from ≤ m.start.number → IsStartAt tokens (get_or patches at d).place m.start.number m.start.token → m.patch ≡ (get_or patches at d).patch → now ≡ old ++ m ∷ [] →
    ((rest : List MeantPatch) → AreMeantAt from tokens (drop at patches) rest → AreMeantAt 0 tokens patches (old ++ rest)) →
    (rest : List MeantPatch) → AreMeantAt m.start.number tokens (drop (at + 1) patches) rest → AreMeantAt 0 tokens patches (now ++ rest)
meant_more tokens patches at from d m old now l o s q e h rest r =
    subst (λ (xs : List MeantPatch). AreMeantAt 0 tokens patches xs) (sym (ap (λ (xs : List MeantPatch). xs ++ rest) e ∙ append_assoc old (m ∷ []) rest))
    (h (m ∷ rest) (subst (λ (qs : List PlacedPatch). AreMeantAt from tokens qs (m ∷ rest)) (sym (drop_more patches at d l)) (o, s, q, r)))

pub meant_end : (tokens : List Token) (patches : List PlacedPatch) (at from : ℕ) (old : List MeantPatch) → drop at patches ≡ [] →
    ((rest : List MeantPatch) → AreMeantAt from tokens (drop at patches) rest → AreMeantAt 0 tokens patches (old ++ rest)) → AreMeantAt 0 tokens patches old
meant_end tokens patches at from old e h =
    subst (λ (xs : List MeantPatch). AreMeantAt 0 tokens patches xs) (append-nil old) (h [] (subst (λ (qs : List PlacedPatch). AreMeantAt from tokens qs []) (sym e) tt))

pub meant_are : (page : List ℕ) (tokens : List Token) (patches : List PlacedPatch) (from : ℕ) (meant : List MeantPatch) → AreTokensOf page tokens → AreMeantAt from tokens patches meant →
    All (IsMeantOfPage page) meant
meant_are page tokens [] from [] t h = λ k d l. absurd (omega arith)
meant_are page tokens [] from (m ∷ meant) t h = absurd h
meant_are page tokens (p ∷ patches) from [] t h = absurd h
meant_are page tokens (p ∷ patches) from (m ∷ meant) t h =
    All-cons (IsMeantOfPage page) m meant (start_of page tokens p.place m.start.number m.start.token t h.1) (meant_are page tokens patches m.start.number meant t h.3)

pub meant_begin : (page : List ℕ) (tokens : List Token) (patches : List PlacedPatch) (from : ℕ) (meant : List MeantPatch) → AreTokensOf page tokens → AreMeantAt from tokens patches meant →
    BeginAt from (placed (mark_len page) (runs (pieces page))) (patches_view patches) (meant_view meant)
meant_begin page tokens [] from [] t h = tt
meant_begin page tokens [] from (m ∷ meant) t h = absurd h
meant_begin page tokens (p ∷ patches) from [] t h = absurd h
meant_begin page tokens (p ∷ patches) from (m ∷ meant) t h =
    let o = start_of page tokens p.place m.start.number m.start.token t h.1 in (
      h.0,
      (o.piece, o.begins ∙ ap (λ n. Some (n, o.piece)) (h.1).start),
      ap patch_view h.2,
      meant_begin page tokens patches m.start.number meant t h.3,
    )

-- each patch is one of those that are given
abbrev pub given : MeantPatch → ℕ × Patch
given m = (m.start.token.start, patch_view m.patch)

pub meant_given : (tokens : List Token) (patches : List PlacedPatch) (from : ℕ) (meant : List MeantPatch) → AreMeantAt from tokens patches meant → map given meant ≡ patches_view patches
meant_given tokens [] from [] h = refl
meant_given tokens [] from (m ∷ meant) h = absurd h
meant_given tokens (p ∷ patches) from [] h = absurd h
meant_given tokens (p ∷ patches) from (m ∷ meant) h =
    ap₂ (λ (x : ℕ × Patch) (xs : List (ℕ × Patch)). x ∷ xs) (ap₂ (λ (n : ℕ) (q : ElementPatch). (n, patch_view q)) (h.1).start h.2) (meant_given tokens patches m.start.number meant h.3)

-- how far elements go

pub extent_at : (e : Element) (es : List Element) (n : ℕ) (v : Bool) → (e.start == n) ≡ v → extent_in n (e ∷ es) ≡ (if v then extent_of e else extent_in n es)
extent_at e es n v h = ap (λ (w : Bool). if w then extent_of e else extent_in n es) h

within : (e : Element) (es : List Element) (x : CodeExtent) (old new : List CodeExtent) → e.start < length old → new ≡ set old e.start x → extent_view x ≡ extent_of e →
    AreExtents es old → AreExtents (e ∷ es) new
within e es x old new l s v h = λ n d k.
    let m : n < length old = omega (arith, ap (λ (xs : List CodeExtent). length xs) s, length-set {A = CodeExtent}) in
    elim (cases_Bool (e.start == n)) [
      | inl y ↦
          let same : n ≡ e.start = sym (eqb-true e.start n y) in
          ap extent_view (ap (λ (xs : List CodeExtent). get_or xs n d) s ∙ ap (λ i. get_or (set old e.start x) i d) same ∙ get_or-set_same old e.start x d l)
          ∙ v ∙ sym (extent_at e es n true y)
      | inr y ↦
          let other : n ≢ e.start = λ q. eqb-false e.start n y (sym q) in
          ap extent_view (ap (λ (xs : List CodeExtent). get_or xs n d) s ∙ get_or-set_other old e.start n x d other)
          ∙ h n d m ∙ sym (extent_at e es n false y)
    ]

past : (e : Element) (es : List Element) (old new : List CodeExtent) → length old ≤ e.start → new ≡ old → AreExtents es old → AreExtents (e ∷ es) new
past e es old new l s h = λ n d k.
    let m : n < length old = omega (arith, ap (λ (xs : List CodeExtent). length xs) s) in
    let other : (e.start == n) ≡ false = ne_eqb e.start n (λ q. omega (arith, q)) in
    ap (λ (xs : List CodeExtent). extent_view (get_or xs n d)) s ∙ h n d m ∙ sym (extent_at e es n false other)

pub extents_more : (e : Element) (es : List Element) (x : CodeExtent) (old new : List CodeExtent) → (e.start < length old → new ≡ set old e.start x) → (length old ≤ e.start → new ≡ old) →
    extent_view x ≡ extent_of e → AreExtents es old → AreExtents (e ∷ es) new
extents_more e es x old new s k v h = elim (cases_Bool (ltb e.start (length old))) [
  | inl y ↦ let l : e.start < length old = ltb-true e.start (length old) y in within e es x old new l (s l) v h
  | inr y ↦ let l : length old ≤ e.start = ltb-false e.start (length old) y in past e es old new l (k l) h
]

pub extents_len : (i : ℕ) (x : CodeExtent) (old new : List CodeExtent) → (i < length old → new ≡ set old i x) → (length old ≤ i → new ≡ old) → length new ≡ length old
extents_len i x old new s k = elim (cases_Bool (ltb i (length old))) [
  | inl y ↦ ap (λ (xs : List CodeExtent). length xs) (s (ltb-true i (length old) y)) ∙ length-set old i x
  | inr y ↦ ap (λ (xs : List CodeExtent). length xs) (k (ltb-false i (length old) y))
]

pub extents_step : (es : List CodeElement) (k : ℕ) (d : CodeElement) (x : CodeExtent) (old new : List CodeExtent) → 0 < k → k ≤ length es →
    ((get_or es (k - 1) d).start < length old → new ≡ set old (get_or es (k - 1) d).start x) → (length old ≤ (get_or es (k - 1) d).start → new ≡ old) →
    extent_view x ≡ extent_of (element_view (get_or es (k - 1) d)) → AreExtents (elements_view (drop k es)) old → AreExtents (elements_view (drop (k - 1) es)) new
extents_step es k d x old new o l s p v h =
    let inside : k - 1 < length es = omega arith in
    let next : k - 1 + 1 ≡ k = omega arith in
    let same : elements_view (drop (k - 1) es) ≡ element_view (get_or es (k - 1) d) ∷ elements_view (drop k es) =
    ap elements_view (drop_more es (k - 1) d inside) ∙ ap (λ n. element_view (get_or es (k - 1) d) ∷ elements_view (drop n es)) next in
    subst (λ (fs : List Element). AreExtents fs new) (sym same) (extents_more (element_view (get_or es (k - 1) d)) (elements_view (drop k es)) x old new s p v h)

-- what is asked for

abbrev pub before : List Asked → Option (List Asked) → Option (List Asked)
before xs None = None
before xs (Some more) = Some (xs ++ more)

before_asks : (xs : List Asked) (t : Turn) (asks : List (Splice Put)) (tags : List Asked) (o : Option (List Asked)) → before xs (with_asks t asks tags o) ≡ before (xs ++ (map (asked_at t) asks ++ tags)) o
before_asks xs t asks tags None = refl
before_asks xs t asks tags (Some more) =
    let own : List Asked = map (asked_at t) asks in
    ap (λ (ys : List Asked). Some ys) (ap (λ (ys : List Asked). xs ++ ys) (sym (append_assoc own tags more)) ∙ sym (append_assoc xs (own ++ tags) more))

pub before_none : (o : Option (List Asked)) → before [] o ≡ o
before_none None = refl
before_none (Some more) = refl

second_view : (s : Start) (t : CodeTurn) (o : Option Ask) → asked_view (map (placed_at s t) (option_to_list o)) ≡ map (asked_at (turn_view t)) (map ask_view (option_to_list o))
second_view s t None = refl
second_view s t (Some a) = refl

pub placed_asked : (s : Start) (t : CodeTurn) (p : Planned) → asked_view (placed_view s t p) ≡ map (asked_at (turn_view t)) (planned_view p)
placed_asked s t p = ap (λ (xs : List Asked). asked_one (placed_at s t p.first) ∷ xs) (second_view s t p.second)

counts : (ps : List Piece) (at : ℕ) (gone : Gone) (left : LeftOpen) (q : ℕ × Patch) (qs : List (ℕ × Patch)) (asks : List (Splice Put)) → is_gone gone q.0 ≡ false → asked_of ps q.0 q.1 ≡ Some asks →
    asked_from ps at gone left (q ∷ qs) ≡ with_asks (turn_of q.1 q.0 at) asks (end_tags at left (closings q.1 q.0 (piece_extent ps q.0) left))
    (asked_from ps (suc at) (gone_after q.1 q.0 asks gone) (open_after q.1 q.0 (piece_extent ps q.0) left) qs)
counts ps at gone left q qs asks l a =
    let tags : List Asked = end_tags at left (closings q.1 q.0 (piece_extent ps q.0) left) in
    let next : LeftOpen = open_after q.1 q.0 (piece_extent ps q.0) left in
    ap (λ (v : Bool). if v then asked_from ps (suc at) gone left qs else elim (asked_of ps q.0 q.1) as (λ _. Option (List Asked)) [
      | None ↦ None
      | Some as2 ↦ with_asks (turn_of q.1 q.0 at) as2 tags (asked_from ps (suc at) (gone_after q.1 q.0 as2 gone) next qs)
    ]) l
    ∙ ap (λ (o : Option (List (Splice Put))). elim o as (λ _. Option (List Asked)) [
      | None ↦ None
      | Some as2 ↦ with_asks (turn_of q.1 q.0 at) as2 tags (asked_from ps (suc at) (gone_after q.1 q.0 as2 gone) next qs)
    ]) a

skipped : (ps : List Piece) (at : ℕ) (gone : Gone) (left : LeftOpen) (q : ℕ × Patch) (qs : List (ℕ × Patch)) → is_gone gone q.0 ≡ true → asked_from ps at gone left (q ∷ qs) ≡ asked_from ps (suc at) gone left qs
skipped ps at gone left q qs l =
    ap (λ (v : Bool). if v then asked_from ps (suc at) gone left qs else elim (asked_of ps q.0 q.1) as (λ _. Option (List Asked)) [
      | None ↦ None
      | Some as2 ↦ with_asks (turn_of q.1 q.0 at) as2 (end_tags at left (closings q.1 q.0 (piece_extent ps q.0) left))
          (asked_from ps (suc at) (gone_after q.1 q.0 as2 gone) (open_after q.1 q.0 (piece_extent ps q.0) left) qs)
    ]) l

-- those of the patches from a number on
abbrev pub AskedFrom : List Piece → ℕ → Gone → LeftOpen → List MeantPatch → Option (List Asked)
AskedFrom ps at gone left meant = asked_from ps at gone left (meant_view meant)

abbrev numbered : MeantPatch → ℕ × Patch
numbered m = (m.start.number, patch_view m.patch)

view_drop : (meant : List MeantPatch) (at : ℕ) (d : MeantPatch) → at < length meant → meant_view (drop at meant) ≡ numbered (get_or meant at d) ∷ meant_view (drop (at + 1) meant)
view_drop meant at d l = ap meant_view (drop_more meant at d l)

pub asks_more : (ps : List Piece) (meant : List MeantPatch) (at : ℕ) (gone after : Gone) (left next_left : LeftOpen) (extent : Extent) (m d : MeantPatch) (planned : Planned) (old now more : List PlacedAsk)
    (all : Option (List Asked)) →
    at < length meant → m ≡ get_or meant at d → is_gone gone m.start.number ≡ false → asked_of ps m.start.number (patch_view m.patch) ≡ Some (planned_view planned) →
    extent ≡ piece_extent ps m.start.number → now ≡ old ++ more →
    asked_view more ≡ map (asked_at (turn_of (patch_view m.patch) m.start.number at)) (planned_view planned) ++ end_tags at left (closings (patch_view m.patch) m.start.number extent left) →
    next_left ≡ open_after (patch_view m.patch) m.start.number extent left → after ≡ gone_after (patch_view m.patch) m.start.number (planned_view planned) gone →
    all ≡ before (asked_view old) (AskedFrom ps at gone left (drop at meant)) → all ≡ before (asked_view now) (AskedFrom ps (at + 1) after next_left (drop (at + 1) meant))
asks_more ps meant at gone after left next_left extent m d planned old now more all l is o a x e w f k h =
    let q : ℕ × Patch = numbered m in
    let asks : List (Splice Put) = planned_view planned in
    let qs : List (ℕ × Patch) = meant_view (drop (at + 1) meant) in
    let turn : Turn = turn_of q.1 q.0 at in
    let tags : List Asked = end_tags at left (closings q.1 q.0 (piece_extent ps q.0) left) in
    let own : List Asked = map (asked_at turn) asks ++ tags in
    let viewed : asked_view now ≡ asked_view old ++ own =
    ap asked_view e ∙ map-append asked_one old more
    ∙ ap (λ (xs : List Asked). asked_view old ++ xs) (w ∙ ap (λ (y : Extent). map (asked_at turn) asks ++ end_tags at left (closings q.1 q.0 y left)) x) in
    let opened : next_left ≡ open_after q.1 q.0 (piece_extent ps q.0) left = f ∙ ap (λ (y : Extent). open_after q.1 q.0 y left) x in
    let these : meant_view (drop at meant) ≡ q ∷ qs = view_drop meant at d l ∙ ap (λ (y : MeantPatch). numbered y ∷ qs) (sym is) in
    let next : suc at ≡ at + 1 = omega arith in
    h
    ∙ ap (λ (ns : List (ℕ × Patch)). before (asked_view old) (asked_from ps at gone left ns)) these
    ∙ ap (before (asked_view old)) (counts ps at gone left q qs asks o a)
    ∙ before_asks (asked_view old) turn asks tags (asked_from ps (suc at) (gone_after q.1 q.0 asks gone) (open_after q.1 q.0 (piece_extent ps q.0) left) qs)
    ∙ ap (λ (ys : LeftOpen). before (asked_view old ++ own) (asked_from ps (suc at) (gone_after q.1 q.0 asks gone) ys qs)) (sym opened)
    ∙ ap₂ (λ (xs : List Asked) (g : Gone). before xs (asked_from ps (suc at) g next_left qs)) (sym viewed) (sym k)
    ∙ ap (λ n. before (asked_view now) (asked_from ps n after next_left qs)) next

pub asks_same : (ps : List Piece) (meant : List MeantPatch) (at : ℕ) (gone : Gone) (left : LeftOpen) (m d : MeantPatch) (old : List Asked) (all : Option (List Asked)) →
    at < length meant → m ≡ get_or meant at d → is_gone gone m.start.number ≡ true →
    all ≡ before old (AskedFrom ps at gone left (drop at meant)) → all ≡ before old (AskedFrom ps (at + 1) gone left (drop (at + 1) meant))
asks_same ps meant at gone left m d old all l is o h =
    let qs : List (ℕ × Patch) = meant_view (drop (at + 1) meant) in
    let these : meant_view (drop at meant) ≡ numbered m ∷ qs = view_drop meant at d l ∙ ap (λ (x : MeantPatch). numbered x ∷ qs) (sym is) in
    let next : suc at ≡ at + 1 = omega arith in
    h ∙ ap (λ (ns : List (ℕ × Patch)). before old (asked_from ps at gone left ns)) these
    ∙ ap (before old) (skipped ps at gone left (numbered m) qs o)
    ∙ ap (λ n. before old (asked_from ps n gone left qs)) next

-- in order

pub sorted : (ps : List Piece) (patches : List (ℕ × Patch)) (old new : List PlacedAsk) → asked_each ps patches ≡ Some (asked_view old) → IsPermutation old new →
    AreInTurn new → AreSorted ps patches new
sorted ps patches old new a p t = record {
  each = asked_view old;
  asked = a;
  same = IsPermutation-map asked_one old new p;
  in_turn = t;
}

pub asks_are : (asks : List PlacedAsk) → map ask_of (asked_view asks) ≡ asks_view asks
asks_are [] = refl
asks_are (a ∷ asks) = ap (λ (xs : List (Splice Put)). ask_view a.ask ∷ xs) (asks_are asks)

-- a page that is read again

-- as they are asked for, whatever separators stand
are_asked_of : (ps : List Piece) (asks : List (Splice Put)) (splices : List (Splice Piece)) (last : Option Piece) (place : ℕ) → AreSeparatedFrom last place ps asks splices → AreAskedOne ps asks splices
are_asked_of ps [] [] last place h = tt
are_asked_of ps [] (s ∷ splices) last place h = absurd h
are_asked_of ps (a ∷ asks) [] last place h = absurd h
are_asked_of ps (a ∷ asks) (s ∷ splices) last place h = ((h.0).asked, are_asked_of ps asks splices _ a.until h.1)

pub asked_together : (ps : List Piece) (patches : List (ℕ × Patch)) (asks : List PlacedAsk) (splices : List (Splice Piece)) → AreSorted ps patches asks →
    are_ordered 0 (length ps) (asks_view asks) ≡ true → AreSeparated ps (asks_view asks) splices →
    (together : AreAskedTogether ps patches splices) × AreSeparated ps (map ask_of together.asks) splices
asked_together ps patches asks splices a o h =
    let same : asks_view asks ≡ map ask_of (asked_view asks) = sym (asks_are asks) in
    let separated : AreSeparated ps (map ask_of (asked_view asks)) splices = subst (λ (bs : List (Splice Put)). AreSeparated ps bs splices) same h in (
      record {
        each = a.each;
        asked = a.asked;
        asks = asked_view asks;
        same = a.same;
        ordered = subst (λ (bs : List (Splice Put)). are_ordered 0 (length ps) bs ≡ true) same o;
        in_turn = are_put_in_turn (length ps) 0 asks a.in_turn o;
        are_asked = are_asked_of ps (map ask_of (asked_view asks)) splices None 0 separated;
      },
      separated,
    )

pub several : (page text : List ℕ) (tokens : List Token) (patches : List PlacedPatch) (meant : List MeantPatch) (asks : List PlacedAsk) (parts : List Part) →
    AreTokensOf page tokens → AreMeantAt 0 tokens patches meant → AreSorted (runs (pieces page)) (meant_view meant) asks → ArePieces parts (runs (pieces page)) →
    IsSplicedPageOf (asks_view asks) parts page text → AreEdited (patches_view patches) page text
several page text tokens patches meant asks parts t s a g r =
    let ps : List Piece = runs (pieces page) in
    let page_with : IsSplicedPage (asks_view asks) page text ps = r ps g (page_texts (without_mark page)) in
    let together = asked_together ps (meant_view meant) asks page_with.splices a page_with.ordered page_with.asked in
    record {
      numbered = meant_view meant;
      begin = meant_begin page tokens patches 0 meant t s;
      splices = page_with.splices;
      asked = together.0;
      separated = together.1;
      mark = page_with.mark;
      bytes = page_with.bytes;
      tokens = page_with.tokens;
    }

-- this patch at each place

again_by : (places : List ℕ) (at d : ℕ) (patch : Patch) → at < length places → at_each patch (drop at places) ≡ at_each patch (get_or places at d ∷ drop (at + 1) places)
again_by places at d patch l = ap (at_each patch) (drop_more places at d l)

each_twice : (n m : ℕ) (ns : List ℕ) (patch : Patch) (v : Bool) → (n == m) ≡ v → at_each patch (n ∷ m ∷ ns) ≡ (if v then at_each patch (m ∷ ns) else (n, patch) ∷ at_each patch (m ∷ ns))
each_twice n m ns patch v e = ap (λ (w : Bool). if w then at_each patch (m ∷ ns) else (n, patch) ∷ at_each patch (m ∷ ns)) e

each_one : (n : ℕ) (ns : List ℕ) (patch : Patch) (v : Bool) → stands_twice (n ∷ ns) ≡ v → at_each patch (n ∷ ns) ≡ (if v then at_each patch ns else (n, patch) ∷ at_each patch ns)
each_one n [] patch true e = absurd (true≢false (sym e))
each_one n [] patch false e = refl
each_one n (m ∷ ns) patch v e = each_twice n m ns patch v e

each_more : (places : List ℕ) (at d : ℕ) (patch : Patch) (v : Bool) → at < length places → stands_twice (drop at places) ≡ v →
    at_each patch (drop at places) ≡ (if v then at_each patch (drop (at + 1) places) else (get_or places at d, patch) ∷ at_each patch (drop (at + 1) places))
each_more places at d patch v l e =
    again_by places at d patch l ∙ each_one (get_or places at d) (drop (at + 1) places) patch v (ap stands_twice (sym (drop_more places at d l)) ∙ e)

pub each_again : (places : List ℕ) (at d : ℕ) (patch : Patch) (old all : List (ℕ × Patch)) → at < length places → stands_twice (drop at places) ≡ true →
    all ≡ old ++ at_each patch (drop at places) → all ≡ old ++ at_each patch (drop (at + 1) places)
each_again places at d patch old all l e h = h ∙ ap (λ (xs : List (ℕ × Patch)). old ++ xs) (each_more places at d patch true l e)

pub each_once : (places : List ℕ) (at d : ℕ) (old now : List PlacedPatch) (p : ElementPatch) (all : List (ℕ × Patch)) → at < length places → stands_twice (drop at places) ≡ false →
    now ≡ old ++ record { place = get_or places at d; patch = p } ∷ [] →
    all ≡ patches_view old ++ at_each (patch_view p) (drop at places) → all ≡ patches_view now ++ at_each (patch_view p) (drop (at + 1) places)
each_once places at d old now p all l e n h =
    let one : List (ℕ × Patch) = (get_or places at d, patch_view p) ∷ [] in
    let more : List (ℕ × Patch) = at_each (patch_view p) (drop (at + 1) places) in
    let viewed : patches_view now ≡ patches_view old ++ one = ap patches_view n ∙ map-append (λ (x : PlacedPatch). (x.place, patch_view x.patch)) old (record { place = get_or places at d; patch = p } ∷ []) in
    h ∙ ap (λ (xs : List (ℕ × Patch)). patches_view old ++ xs) (each_more places at d (patch_view p) false l e)
    ∙ sym (append_assoc (patches_view old) one more)
    ∙ ap (λ (xs : List (ℕ × Patch)). xs ++ more) (sym viewed)

pub none_left : (places : List ℕ) (at : ℕ) (patch : Patch) (now all : List (ℕ × Patch)) → drop at places ≡ [] → all ≡ now ++ at_each patch (drop at places) → now ≡ all
none_left places at patch now all e h = sym (h ∙ ap (λ (xs : List ℕ). now ++ at_each patch xs) e ∙ append-nil now)

pub none_viewed : (patches : List PlacedPatch) → patches_view patches ≡ [] → patches ≡ []
none_viewed [] e = refl
none_viewed (p ∷ patches) e = cc
