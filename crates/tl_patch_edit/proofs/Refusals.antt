-- Why an edit is refused.
use Rattle.std.proofs.Common.{◌≡◌, ◌==◌, ◌≤◌, ◌<◌, ℕ, zero, suc, ◌+◌, Bool, true, false, ◌&&◌, List, [], ◌∷◌, ◌++◌, length, get_or, take, drop, map, Option, Some, None, slice_get, refl, ap, sym, subst, ◌∙◌, arith, inl, inr, true≢false, ◌⊎◌}
use Rattle.std.specs.List.{All, Contains}
use Rattle.std.specs.Prelude.{Err, IfErr, IfNone, Result, nat_le}
use Rattle.std.proofs.lemmas.List.Sorted.{Contains-permutation, IsPermutation-refl, IsPermutation-sym}
use Rattle.std.proofs.lemmas.List.{drop_more, get_or-map, length-map, take-append-drop, take_more}
use Rattle.std.proofs.lemmas.List.Elements.{All-append, All-contains, Contains-append_right, Contains-get_or}
use Rattle.std.proofs.lemmas.Option.{get_or_from_slice_get, slice_get-get_or, slice_get_within}
use Rattle.tl_html_spec.specs.HtmlTokenizer.{Character, CommentToken, DoctypeToken, EndTag, HtmlToken, StartTag, State, data_state, without_mark}
use Rattle.tl_html_spec.specs.Pieces.{Piece, pieces, runs}
use Rattle.tl_html_spec.proofs.Cutting.{bytes_are, runs_bytes, runs_tokens, tokens_are}
use Rattle.tl_html_tokens.specs.Characters.{characters_of}
use Rattle.tl_html_tokens.specs.Kinds.{IsKind}
use Rattle.tl_html_tokens.specs.Modes.{state_of}
use Rattle.tl_html_tokens.specs.Tokens.{AreTokensOf}
use Rattle.tl_html_tokens.specs.declared.mode.Mode.{Mode}
use Rattle.tl_html_tokens.specs.declared.mode.Mode.TheVariants as mode
use Rattle.tl_html_tokens.specs.declared.stage.TokenKind.{TokenKind}
use Rattle.tl_html_tokens.specs.declared.stage.TokenKind.TheVariants as kind
use Rattle.tl_html_tokens.specs.declared.token.Token.{Token}
use Rattle.tl_patch.proofs.Begins.{whole_start_tag}
use Rattle.tl_patch_spec.specs.Patches.{Changed, Content, Markup, NewContent, NewEndTag, Patch, Put, Text, asked_of, content_pieces, with_end}
use Rattle.tl_patch_spec.specs.Splices.{Splice, are_ordered}
use Rattle.tl_patch_spec.specs.TagChanges.{Rename}
use Rattle.tl_html_parts.specs.Parts.{name_of}
use Rattle.tl_patch_edit.specs.Asks.{IsWanted, ask_view, asks_view, placed_of, puts_view}
use Rattle.tl_patch_edit.specs.Inner.Causes.{CannotPut, CannotPutIn, CannotStandIn, IsAsksError, IsOneAt, IsPageError, IsPlanError, IsPlanned, IsReadError, IsReadyError, IsSpliceError, IsStartError, IsStartsError, IsUnmeant, NoStartFrom, ReachesFrom, begins_as, has_name, has_tag}
use Rattle.tl_patch_edit.specs.Errors.{AreAcross, AreTag, CannotBeMeant, CannotBePut, CannotBeWritten, CannotStand, IsAskAt, IsPatchAt, IsRefused, IsTag, pieces_in, placed_pieces}
use Rattle.tl_patch_edit.specs.Found.{IsStartAt}
use Rattle.tl_patch_edit.specs.Inner.Parts.{ArePieces, IsPieceOf, Part, Says, is_data, with_end_part}
use Rattle.tl_patch_edit.specs.Several.{AreEdited, AreInTurn, AreSorted, BeginAt, IsMeantOfPage, asked_one, asked_view, places_of}
use Rattle.tl_patch_edit.specs.Open.{IsOf}
use Rattle.tl_patch_edit.specs.View.{content_view, meant_view, patch_view, patches_view}
use Rattle.tl_patch_edit.specs.declared.ask.Ask.{Ask}
use Rattle.tl_patch_edit.specs.declared.ask.MeantPatch.{MeantPatch}
use Rattle.tl_patch_edit.specs.declared.ask.PlacedAsk.{PlacedAsk}
use Rattle.tl_patch_edit.specs.declared.ask.PlacedPatch.{PlacedPatch}
use Rattle.tl_patch_edit.specs.declared.ask.Put.{Put as CodePut}
use Rattle.tl_patch_edit.specs.declared.ask.Put.TheVariants as put
use Rattle.tl_patch_edit.specs.declared.ask.Start.{Start}
use Rattle.tl_patch_edit.specs.declared.error.EditError.{EditError}
use Rattle.tl_patch_edit.specs.declared.error.EditError.TheVariants as error
use Rattle.tl_patch_edit.specs.declared.tag.ReadyAsk.{ReadyAsk}
use Rattle.tl_patch_edit.proofs.Edited.{never_spliced}
use Rattle.tl_patch_edit.proofs.Missing.{lacks}
use Rattle.tl_patch_edit.proofs.Splicing.{end_pieces, length_pieces, piece_at}
use Rattle.tl_patch_edit.proofs.Texts.{page_texts}
use Rattle.tl_patch_edit.proofs.Together.{asked_together, asks_are, given}
use Rattle.tl_patch_edit.proofs.Turns.{are_across}

-- start tags

pub reached : (tokens : List Token) (places : List ℕ) (at : ℕ) (d : ℕ) (start : Start) → at < length places → IsStartAt tokens (get_or places at d) start.number start.token →
    ReachesFrom tokens (take (at + 1) places) start.number
reached tokens places at d start l s =
    let place : ℕ = get_or places at d in
    let last : Contains (take at places ++ place ∷ []) place = Contains-append_right (take at places) (place ∷ []) place (0, omega arith, refl) in
    inr (place, start.token, subst (λ (xs : List ℕ). Contains xs place) (sym (take_more places at d l)) last, s)

pub parted : (xs : List ℕ) (at d : ℕ) → at < length xs → xs ≡ take at xs ++ get_or xs at d ∷ drop (at + 1) xs
parted xs at d l = sym (take-append-drop at xs) ∙ ap (λ (ys : List ℕ). take at xs ++ ys) (drop_more xs at d l)

pub missing : (tokens : List Token) (places : List ℕ) (at from d : ℕ) (e : EditError) → at < length places → ReachesFrom tokens (take at places) from →
    IsStartError from tokens (get_or places at d) e → IsStartsError tokens places e
missing tokens places at from d (error.NoStartTag p) l r h = record {
  front = take at places;
  back = drop (at + 1) places;
  is = parted places at d l ∙ ap (λ n. take at places ++ n ∷ drop (at + 1) places) (sym h.0);
  from = from;
  reaches = r;
  none = subst (λ n. NoStartFrom from tokens n) (sym h.0) h.1;
}
missing tokens places at from d error.OutOfMemory l r h = tt
missing tokens places at from d (error.NotMeant p) l r h = absurd h
missing tokens places at from d (error.Across p) l r h = absurd h
missing tokens places at from d (error.Misread p by) l r h = absurd h
missing tokens places at from d (error.EndOfPage p) l r h = absurd h
missing tokens places at from d (error.NotWritten p) l r h = absurd h
missing tokens places at from d (error.ReadOtherwise p) l r h = absurd h

pub starts_refused : (page : List ℕ) (tokens : List Token) (patches : List (ℕ × Patch)) (e : EditError) → AreTokensOf page tokens → IsStartsError tokens (places_of patches) e →
    IsRefused page patches e
starts_refused page tokens patches (error.NoStartTag p) t h = lacks page tokens (places_of patches) p t h
starts_refused page tokens patches error.OutOfMemory t h = tt
starts_refused page tokens patches (error.NotMeant p) t h = absurd h
starts_refused page tokens patches (error.Across p) t h = absurd h
starts_refused page tokens patches (error.Misread p by) t h = absurd h
starts_refused page tokens patches (error.EndOfPage p) t h = absurd h
starts_refused page tokens patches (error.NotWritten p) t h = absurd h
starts_refused page tokens patches (error.ReadOtherwise p) t h = absurd h

-- places of patches

pub places_length : (patches : List PlacedPatch) → length (places_of (patches_view patches)) ≡ length patches
places_length [] = refl
places_length (p ∷ patches) = ap suc (places_length patches)

pub place_of : (patches : List PlacedPatch) (at : ℕ) (d : PlacedPatch) (n : ℕ) → at < length patches → get_or (places_of (patches_view patches)) at n ≡ (get_or patches at d).place
place_of [] at d n l = absurd (omega arith)
place_of (p ∷ patches) zero d n l = refl
place_of (p ∷ patches) (suc at) d n l = place_of patches at d n (omega arith)

pub patch_reached : (tokens : List Token) (patches : List PlacedPatch) (at : ℕ) (d : PlacedPatch) (start : Start) → at < length patches → IsStartAt tokens (get_or patches at d).place start.number start.token →
    ReachesFrom tokens (take (at + 1) (places_of (patches_view patches))) start.number
patch_reached tokens patches at d start l s =
    let here : at < length (places_of (patches_view patches)) = omega (arith, places_length patches) in
    reached tokens (places_of (patches_view patches)) at 0 start here (subst (λ n. IsStartAt tokens n start.number start.token) (sym (place_of patches at d 0 l)) s)

pub patch_missing : (tokens : List Token) (patches : List PlacedPatch) (at from : ℕ) (d : PlacedPatch) (e : EditError) → at < length patches → ReachesFrom tokens (take at (places_of (patches_view patches))) from →
    IsStartError from tokens (get_or patches at d).place e → IsStartsError tokens (places_of (patches_view patches)) e
patch_missing tokens patches at from d e l r h =
    let here : at < length (places_of (patches_view patches)) = omega (arith, places_length patches) in
    missing tokens (places_of (patches_view patches)) at from 0 e here r (subst (λ n. IsStartError from tokens n e) (sym (place_of patches at d 0 l)) h)

-- what is asked for of an element

pub one_meant : (meant : List MeantPatch) (at : ℕ) (m d : MeantPatch) → at < length meant → m ≡ get_or meant at d → Contains meant m
one_meant meant at m d l e = subst (λ (x : MeantPatch). Contains meant x) (sym e) (Contains-get_or meant at d l)

pub planned_more : (meant : List MeantPatch) (at : ℕ) (m d : MeantPatch) (old now more : List PlacedAsk) → at < length meant → m ≡ get_or meant at d → now ≡ old ++ more →
    All (IsOf m.start at) more → All (IsPlanned meant) old → All (IsPlanned meant) now
planned_more meant at m d old now more l i e o h =
    let these : All (IsPlanned meant) more = λ k x s. (
    let of : IsOf m.start at (get_or more k x) = o k x s in
    record { meant = m; at = ap (slice_get meant) of.number ∙ slice_get-get_or meant at d l ∙ ap (λ (y : MeantPatch). Some y) (sym i); start = sym of.same }
    ) in
    subst (All (IsPlanned meant)) (sym e) (All-append (IsPlanned meant) old more h these)

pub within_extents : (page : List ℕ) (meant : List MeantPatch) (at len : ℕ) (m d : MeantPatch) → at < length meant → m ≡ get_or meant at d → All (IsMeantOfPage page) meant →
    length (runs (pieces page)) ≤ len → m.start.number < len
within_extents page meant at len m d l e h k =
    let o : IsMeantOfPage page m = All-contains (IsMeantOfPage page) meant m h (one_meant meant at m d l e) in
    let n : m.start.number < length (runs (pieces page)) = slice_get_within (runs (pieces page)) m.start.number o.piece o.stands in
    omega arith

pub unmeant : (page : List ℕ) (meant : List MeantPatch) (at : ℕ) (m d : MeantPatch) (e : EditError) → at < length meant → m ≡ get_or meant at d →
    IsPlanError m.start.token.start (asked_of (runs (pieces page)) m.start.number (patch_view m.patch)) e → IsAsksError page meant e
unmeant page meant at m d (error.NotMeant p) l i h = record { meant = m; among = one_meant meant at m d l i; begins = sym h.0; none = h.1 }
unmeant page meant at m d error.OutOfMemory l i h = tt
unmeant page meant at m d (error.NoStartTag p) l i h = absurd h
unmeant page meant at m d (error.Across p) l i h = absurd h
unmeant page meant at m d (error.Misread p by) l i h = absurd h
unmeant page meant at m d (error.EndOfPage p) l i h = absurd h
unmeant page meant at m d (error.NotWritten p) l i h = absurd h
unmeant page meant at m d (error.ReadOtherwise p) l i h = absurd h

pub contains_map : {X Y : Type 0} (f : X → Y) (xs : List X) (x : X) → Contains xs x → Contains (map f xs) (f x)
contains_map f xs x k =
    let l : k.0 < length (map f xs) = (let e : length (map f xs) ≡ length xs = length-map xs f in omega (arith, k.1)) in
    (k.0, l, get_or-map f xs k.0 x (f x) k.1 ∙ ap f k.2)

-- the patch of one of these start tags
patch_at : (page : List ℕ) (patches : List (ℕ × Patch)) (meant : List MeantPatch) (m : MeantPatch) → All (IsMeantOfPage page) meant → map given meant ≡ patches → Contains meant m →
    IsPatchAt page patches m.start.token.start
patch_at page patches meant m o e k =
    let here : IsMeantOfPage page m = All-contains (IsMeantOfPage page) meant m o k in
    record {
      patch = patch_view m.patch;
      among = subst (λ (xs : List (ℕ × Patch)). Contains xs (given m)) e (contains_map given meant m k);
      number = m.start.number;
      piece = here.piece;
      begins = here.begins;
    }

unmeant_at : (page : List ℕ) (patches : List (ℕ × Patch)) (meant : List MeantPatch) (place : ℕ) → All (IsMeantOfPage page) meant → map given meant ≡ patches →
    IsUnmeant page meant place → CannotBeMeant page patches place
unfolding patch_at
unmeant_at page patches meant place o e u =
    let one : CannotBeMeant page patches u.meant.start.token.start = record {
      at = patch_at page patches meant u.meant o e u.among;
      start = (All-contains (IsMeantOfPage page) meant u.meant o u.among).start;
      none = u.none;
    } in
    subst (λ n. CannotBeMeant page patches n) u.begins one

pub asks_refused : (page : List ℕ) (patches : List (ℕ × Patch)) (meant : List MeantPatch) (e : EditError) → All (IsMeantOfPage page) meant →
    map given meant ≡ patches → IsAsksError page meant e → IsRefused page patches e
asks_refused page patches meant error.OutOfMemory o m h = tt
asks_refused page patches meant (error.NotMeant p) o m h = unmeant_at page patches meant p o m h
asks_refused page patches meant (error.Across p) o m h = absurd h
asks_refused page patches meant (error.Misread p by) o m h = absurd h
asks_refused page patches meant (error.NoStartTag p) o m h = absurd h
asks_refused page patches meant (error.EndOfPage p) o m h = absurd h
asks_refused page patches meant (error.NotWritten p) o m h = absurd h
asks_refused page patches meant (error.ReadOtherwise p) o m h = absurd h

-- asks that can't be written

pub one_refused : (parts : List Part) (asks : List PlacedAsk) (one : PlacedAsk) (e : EditError) → Contains asks one → IsReadyError parts one e → IsSpliceError parts asks e
one_refused parts asks one error.OutOfMemory k h = tt
one_refused parts asks one (error.EndOfPage p) k h = (one, record { among = k; begins = h.0 }, h.1)
one_refused parts asks one (error.NotWritten p) k h = (one, record { among = k; begins = h.0 }, h.1)
one_refused parts asks one (error.ReadOtherwise p) k h = absurd h
one_refused parts asks one (error.NoStartTag p) k h = absurd h
one_refused parts asks one (error.NotMeant p) k h = absurd h
one_refused parts asks one (error.Across p) k h = absurd h
one_refused parts asks one (error.Misread p by) k h = absurd h

pub read_refused : (page : List ℕ) (parts wanted : List Part) (asks : List PlacedAsk) (place : ℕ) (e : EditError) → IsWanted (asks_view asks) parts wanted → IsReadError page wanted place e →
    IsPageError page place parts asks e
read_refused page parts wanted asks place error.OutOfMemory w h = tt
read_refused page parts wanted asks place (error.ReadOtherwise p) w h = (h.0, never_spliced (asks_view asks) parts wanted page w h.1)
read_refused page parts wanted asks place (error.EndOfPage p) w h = absurd h
read_refused page parts wanted asks place (error.NotWritten p) w h = absurd h
read_refused page parts wanted asks place (error.NoStartTag p) w h = absurd h
read_refused page parts wanted asks place (error.NotMeant p) w h = absurd h
read_refused page parts wanted asks place (error.Across p) w h = absurd h
read_refused page parts wanted asks place (error.Misread p by) w h = absurd h

pub page_refused : (page : List ℕ) (place : ℕ) (parts : List Part) (asks : List PlacedAsk) (e : EditError) → IsSpliceError parts asks e → IsPageError page place parts asks e
page_refused page place parts asks error.OutOfMemory h = h
page_refused page place parts asks (error.ReadOtherwise p) h = absurd h
page_refused page place parts asks (error.EndOfPage p) h = h
page_refused page place parts asks (error.NotWritten p) h = h
page_refused page place parts asks (error.NoStartTag p) h = h
page_refused page place parts asks (error.NotMeant p) h = h
page_refused page place parts asks (error.Across p) h = h
page_refused page place parts asks (error.Misread p by) h = h

pub there : (parts : List Part) (n : ℕ) (here : Part) (P : Part → Type 0) → slice_get parts n ≡ Some here → P here → (place : Part) → slice_get parts n ≡ Some place → P place
there parts n here P s h = λ place e.
    let same : here ≡ place = cc in
    subst P same h

pub none_of : {A : Type 0} (o : Option A) (P : Type 0) → o ≡ None → IfNone o P → P
none_of o P e h = subst (λ x. IfNone x P) e h

pub cannot_put : (parts : List Part) (ask : Ask) (place : Part) → slice_get (with_end_part parts) ask.from ≡ Some place →
    (has_name ask.put ≡ false) ⊎ ((has_tag place ask.put ≡ false) ⊎ CannotPutIn place.mode ask.put) → CannotPut parts ask
cannot_put parts ask place s h = record { place = place; stands = s; cannot = h }

pub ordered_more : (asks : List ReadyAsk) (at done len : ℕ) (one : ReadyAsk) (v : Bool) → drop at asks ≡ one ∷ drop (at + 1) asks →
    (nat_le done one.placed.ask.from && nat_le one.placed.ask.from one.placed.ask.until && nat_le one.placed.ask.until len) ≡ v →
    are_ordered done len (asks_view (placed_of (drop at asks))) ≡ (v && are_ordered one.placed.ask.until len (asks_view (placed_of (drop (at + 1) asks))))
ordered_more asks at done len one v e h =
    ap (λ (rs : List ReadyAsk). are_ordered done len (asks_view (placed_of rs))) e
    ∙ ap (λ (w : Bool). w && are_ordered one.placed.ask.until len (asks_view (placed_of (drop (at + 1) asks)))) h

pub one_among : (asks : List ReadyAsk) (at : ℕ) (one : ReadyAsk) → at < length asks → one ≡ get_or asks at one → Contains (placed_of asks) one.placed
one_among asks at one l e = contains_map (λ (r : ReadyAsk). r.placed) asks one (at, l, sym e)

-- as the definitions have it

markup_nowhere : (m : Mode) (markup : List ℕ) → is_data m ≡ false → content_pieces (state_of m) (Markup markup) ≡ None
markup_nowhere mode.Data markup h = cc
markup_nowhere mode.Title markup h = refl
markup_nowhere mode.Textarea markup h = refl
markup_nowhere mode.ContextText markup h = refl
markup_nowhere mode.Style markup h = refl
markup_nowhere mode.Xmp markup h = refl
markup_nowhere mode.Iframe markup h = refl
markup_nowhere mode.Noembed markup h = refl
markup_nowhere mode.Noframes markup h = refl
markup_nowhere mode.Noscript markup h = refl
markup_nowhere mode.Script markup h = refl
markup_nowhere mode.ScriptEscaped markup h = refl
markup_nowhere mode.ScriptEscapedDash markup h = refl
markup_nowhere mode.ScriptEscapedDashDash markup h = refl
markup_nowhere mode.Plaintext markup h = refl

cannot_stand : (c : Content) (m : Mode) (s : State) → s ≡ state_of m → CannotStandIn m c → CannotStand s c
cannot_stand (Text text) m s e h = (m, e, h)
cannot_stand (Markup markup) m s e (inl h) = inl (ap (λ (z : State). content_pieces z (Markup markup)) e ∙ markup_nowhere m markup h)
cannot_stand (Markup markup) m s e (inr h) = inr h

record PutThere (p : Piece) (puts : List Put) : Type 0 where
  put : Put
  among : Contains puts put
  cannot : CannotBePut p put

data_mode : (m : Mode) → data_state ≡ state_of m → m ≡ mode.Data
data_mode mode.Data e = refl
data_mode _ e = cc

no_tag_in : (cs b : List ℕ) → AreTag (map Character cs) b → ⊥
no_tag_in [] b t = t
no_tag_in (c ∷ cs) b t = t

-- a tag of a page begins as one
tag_begins : (k : TokenKind) (b : List ℕ) (ts : List HtmlToken) → IsKind k ts → Says k mode.Data b ts → AreTag ts b → begins_as k b ≡ true
tag_begins kind.StartTag b ts k s t = whole_start_tag b ts s k
tag_begins kind.EndTag b (EndTag n ∷ []) k s t = t
tag_begins kind.EndTag b [] k s t = absurd k
tag_begins kind.EndTag b (EndTag n ∷ u ∷ ts) k s t = absurd k
tag_begins kind.EndTag b (StartTag n a v ∷ ts) k s t = absurd k
tag_begins kind.EndTag b (Character c ∷ ts) k s t = absurd k
tag_begins kind.EndTag b (CommentToken n ∷ ts) k s t = absurd k
tag_begins kind.EndTag b (DoctypeToken ∷ ts) k s t = absurd k
tag_begins kind.Text b ts k s t = absurd (no_tag_in (characters_of mode.Data b) b (subst (λ (us : List HtmlToken). AreTag us b) s t))
tag_begins kind.Comment b ts k s t = absurd (subst (λ (us : List HtmlToken). AreTag us b) s t)
tag_begins kind.Doctype b ts k s t = absurd (subst (λ (us : List HtmlToken). AreTag us b) s t)
tag_begins kind.Nothing b ts k s t = absurd (subst (λ (us : List HtmlToken). AreTag us b) s t)

no_tag : (place : Part) (p : Piece) → IsPieceOf place p → (is_data place.mode && begins_as place.kind place.bytes) ≡ false → IsTag p → ⊥
no_tag place p i h t =
    let m : place.mode ≡ mode.Data = data_mode place.mode (sym t.0 ∙ i.rest) in
    let said : Says place.kind mode.Data place.bytes p.tokens = subst (λ (n : Mode). Says place.kind n place.bytes p.tokens) m i.says in
    let begins : begins_as place.kind place.bytes ≡ true = tag_begins place.kind place.bytes p.tokens i.kind said (subst (λ (b : List ℕ). AreTag p.tokens b) i.bytes t.1) in
    true≢false (sym (ap (λ (n : Mode). is_data n && begins_as place.kind place.bytes) m ∙ begins) ∙ h)

put_there : (place : Part) (p : Piece) (q : CodePut) → IsPieceOf place p → (has_name q ≡ false) ⊎ ((has_tag place q ≡ false) ⊎ CannotPutIn place.mode q) → PutThere p (puts_view q)
put_there place p put.Nothing i (inl h) = absurd (true≢false h)
put_there place p put.Nothing i (inr (inl h)) = absurd (true≢false h)
put_there place p put.Nothing i (inr (inr h)) = absurd h
put_there place p (put.Content c) i (inl h) = absurd (true≢false h)
put_there place p (put.Content c) i (inr (inl h)) = absurd (true≢false h)
put_there place p (put.Content c) i (inr (inr h)) = record { put = NewContent (content_view c); among = (0, omega arith, refl); cannot = cannot_stand (content_view c) place.mode p.rest i.rest h }
put_there place p (put.LeftOut raw) i (inl h) = record { put = NewEndTag (name_of raw.now); among = (0, omega arith, refl); cannot = h }
put_there place p (put.LeftOut raw) i (inr (inl h)) = absurd (true≢false h)
put_there place p (put.LeftOut raw) i (inr (inr h)) = absurd h
put_there place p (put.EndTag name) i (inl h) = record { put = NewEndTag name.now; among = (0, omega arith, refl); cannot = h }
put_there place p (put.EndTag name) i (inr (inl h)) = absurd (true≢false h)
put_there place p (put.EndTag name) i (inr (inr h)) = absurd h
put_there place p (put.Renamed name) i (inl h) = record { put = Changed (Rename name.now); among = (0, omega arith, refl); cannot = inl h }
put_there place p (put.Renamed name) i (inr (inl h)) = record { put = Changed (Rename name.now); among = (0, omega arith, refl); cannot = inr (no_tag place p i h) }
put_there place p (put.Renamed name) i (inr (inr h)) = absurd h

cannot_write : (page : List ℕ) (patches : List (ℕ × Patch)) (parts : List Part) (place : ℕ) (ask : Ask) → ArePieces parts (pieces_in page) →
    IsAskAt page patches place (ask_view ask) → CannotPut parts ask → CannotBeWritten page patches place
cannot_write page patches parts place ask g a h =
    let all : List Part = with_end_part parts in
    let l : ask.from < length all = slice_get_within all ask.from h.place h.stands in
    let s = piece_at all (with_end (pieces_in page)) ask.from h.place (end_pieces parts (pieces_in page) g) l in
    let here : slice_get all ask.from ≡ Some (get_or all ask.from h.place) = slice_get-get_or all ask.from h.place l in
    let there : slice_get all ask.from ≡ Some h.place = h.stands in
    let same : get_or all ask.from h.place ≡ h.place = cc in
    let of : IsPieceOf h.place s.piece = subst (λ (x : Part). IsPieceOf x s.piece) same s.is in
    let r = put_there h.place s.piece ask.put of h.cannot in
    record { ask = ask_view ask; at = a; piece = s.piece; stands = s.stands; put = r.put; among = r.among; cannot = r.cannot }

-- one error of a call

pub err_is : {T E : Type 0} (P : E → Type 0) (r : Result T E) (e : E) → r ≡ Err e → P e → IfErr r P
err_is P r e q h = subst (λ x. IfErr x P) (sym q) h

pub of_error : {T E : Type 0} (r : Result T E) (P : E → Type 0) (e : E) → IfErr r P → r ≡ Err e → P e
of_error r P e h q = subst (λ x. IfErr x P) q h

pub no_patches : (patches : List PlacedPatch) → length patches ≡ 0 → patches ≡ []
no_patches [] e = refl
no_patches (p ∷ patches) e = absurd (omega arith)

pub some_patches : (patches : List PlacedPatch) → (length patches == 0) ≡ false → 0 < length patches
some_patches [] e = absurd (true≢false e)
some_patches (p ∷ patches) e = omega arith

pub none_edited : (page : List ℕ) → AreEdited [] page page
none_edited page = record {
  numbered = [];
  begin = tt;
  splices = [];
  asked = record {
    each = [];
    asked = refl;
    asks = [];
    same = IsPermutation-refl [];
    ordered = refl;
    in_turn = refl;
    are_asked = tt;
  };
  separated = tt;
  mark = refl;
  bytes = sym (runs_bytes (pieces page) ∙ bytes_are page);
  tokens = sym (runs_tokens (pieces page) ∙ tokens_are page);
}

-- asks that stand across

some_across : (len : ℕ) (asks : List PlacedAsk) → AreInTurn asks → are_ordered 0 len (asks_view asks) ≡ false → AreAcross len (asks_view asks)
some_across len [] t h = absurd (true≢false h)
some_across len (a ∷ asks) t h = are_across len 0 a asks (omega arith) t h

-- what is known of patches whose asks are refused
pub record AreAskedOf (page : List ℕ) (patches : List (ℕ × Patch)) (parts : List Part) (meant : List MeantPatch) (asks : List PlacedAsk) : Type 0 where
  pub are_pieces : ArePieces parts (pieces_in page)
  pub of_page : All (IsMeantOfPage page) meant
  pub are_given : map given meant ≡ patches
  pub begin : BeginAt 0 (placed_pieces page) patches (meant_view meant)
  pub planned : All (IsPlanned meant) asks
  pub sorted : AreSorted (pieces_in page) (meant_view meant) asks

-- an ask at a place

given_place : (meant : List MeantPatch) (at : ℕ) (m : MeantPatch) → slice_get meant at ≡ Some m → slice_get (places_of (map given meant)) at ≡ Some m.start.token.start
given_place [] at m e = cc
given_place (x ∷ meant) zero m e = (let same : x ≡ m = cc in ap (λ (y : MeantPatch). Some y.start.token.start) same)
given_place (x ∷ meant) (suc at) m e = given_place meant at m e

pub one_at : (page : List ℕ) (patches : List (ℕ × Patch)) (parts : List Part) (meant : List MeantPatch) (asks : List PlacedAsk) (p : ℕ) (one : PlacedAsk) → AreAskedOf page patches parts meant asks →
    IsOneAt asks p one → IsAskAt page patches p (ask_view one.ask)
one_at page patches parts meant asks p one a o =
    let planned : IsPlanned meant one = All-contains (IsPlanned meant) asks one a.planned o.among in
    let place : slice_get (places_of patches) one.turn.at ≡ Some p =
    ap (λ (xs : List (ℕ × Patch)). slice_get (places_of xs) one.turn.at) (sym a.are_given) ∙ given_place meant one.turn.at planned.meant planned.at
    ∙ ap (λ (x : Start). Some x.token.start) planned.start ∙ ap (λ n. Some n) o.begins in
    record {
      numbered = meant_view meant;
      begin = a.begin;
      each = a.sorted.each;
      asked = a.sorted.asked;
      one = asked_one one;
      among = Contains-permutation (asked_view asks) a.sorted.each (asked_one one) (IsPermutation-sym a.sorted.each (asked_view asks) a.sorted.same) (contains_map asked_one asks one o.among);
      is = refl;
      patch = place;
    }

place_among : (page : List ℕ) (patches : List (ℕ × Patch)) (p : ℕ) (ask : Splice Put) → IsAskAt page patches p ask → Contains (places_of patches) p
place_among page patches p ask a =
    let l : (a.one).turn.at < length (places_of patches) = slice_get_within (places_of patches) (a.one).turn.at p a.patch in
    ((a.one).turn.at, l, get_or_from_slice_get (places_of patches) (a.one).turn.at p p a.patch)

pub splice_refused : (page : List ℕ) (first : ℕ) (more : List ℕ) (patches : List (ℕ × Patch)) (parts : List Part) (meant : List MeantPatch) (asks : List PlacedAsk) (e : EditError) →
    places_of patches ≡ first ∷ more → AreAskedOf page patches parts meant asks → IsPageError page first parts asks e → IsRefused page patches e
splice_refused page first more patches parts meant asks error.OutOfMemory f a h = tt
splice_refused page first more patches parts meant asks (error.EndOfPage p) f a h =
    let one : PlacedAsk = h.0 in
    record { ask = ask_view one.ask; at = one_at page patches parts meant asks p one a h.1; past = subst (λ n. n < one.ask.from) (sym (length_pieces parts (pieces_in page) a.are_pieces)) h.2 }
splice_refused page first more patches parts meant asks (error.NotWritten p) f a h =
    cannot_write page patches parts p (h.0).ask a.are_pieces (one_at page patches parts meant asks p h.0 a h.1) h.2
splice_refused page first more patches parts meant asks (error.Across p) f a h =
    let at : IsAskAt page patches p (ask_view (h.0).ask) = one_at page patches parts meant asks p h.0 a h.1 in
    let len : length (pieces_in page) ≡ length parts = length_pieces parts (pieces_in page) a.are_pieces in
    let order : are_ordered 0 (length (pieces_in page)) (asks_view asks) ≡ false = ap (λ n. are_ordered 0 n (asks_view asks)) len ∙ h.2 in
    record {
      among = place_among page patches p (ask_view (h.0).ask) at;
      numbered = meant_view meant;
      begin = a.begin;
      each = a.sorted.each;
      asked = a.sorted.asked;
      asks = asked_view asks;
      same = a.sorted.same;
      across = subst (λ (xs : List (Splice Put)). AreAcross (length (pieces_in page)) xs) (sym (asks_are asks)) (some_across (length (pieces_in page)) asks a.sorted.in_turn order);
    }
splice_refused page first more patches parts meant asks (error.ReadOtherwise p) f a h =
    let r = h.1 (pieces_in page) a.are_pieces (page_texts (without_mark page)) in
    let together = asked_together (pieces_in page) (meant_view meant) asks r.splices a.sorted r.ordered r.asked in
    record {
      more = more;
      first = f ∙ ap (λ n. n ∷ more) (sym h.0);
      numbered = meant_view meant;
      begin = a.begin;
      splices = r.splices;
      asked = together.0;
      separated = together.1;
      whole = r.whole;
      never = r.never;
    }
splice_refused page first more patches parts meant asks (error.Misread p by) f a h = absurd h
splice_refused page first more patches parts meant asks (error.NoStartTag p) f a h = absurd h
splice_refused page first more patches parts meant asks (error.NotMeant p) f a h = absurd h

pub first_place : (patches : List PlacedPatch) (d : PlacedPatch) → 0 < length patches → places_of (patches_view patches) ≡ (get_or patches 0 d).place ∷ places_of (patches_view (drop 1 patches))
first_place [] d l = absurd (omega arith)
first_place (p ∷ patches) d l = refl
