-- A page whose tokens are written with changes.
use Rattle.std.proofs.Common.{◌≡◌, ℕ, ◌+◌, ◌==◌, Bool, true, false, List, [], ◌∷◌, ◌++◌, length, take, drop, map, refl, ap, ap₂, sym, subst, ◌∙◌, inl, inr, append_assoc, true≢false, if◌then◌else◌}
use Rattle.std.specs.List.{All, starts_with}
use Rattle.std.proofs.lemmas.Bool.{and_parts, cases_Bool, eqb-true}
use Rattle.tl_html_spec.specs.HtmlTokenizer.{State, after_start, data_state, without_mark}
use Rattle.tl_html_spec.specs.Reader.{at}
use Rattle.tl_html_spec.specs.Pieces.{AreRead, Piece, bytes_of, first_byte, piece, pieces, placed, runs}
use Rattle.tl_html_spec.proofs.Cutting.{bytes_are, runs_bytes}
use Rattle.tl_html_spec.proofs.Kept.{pieces_made}
use Rattle.tl_html_tokens.specs.Kinds.{IsKind, IsStartTag}
use Rattle.tl_html_tokens.specs.Modes.{state_of}
use Rattle.tl_html_tokens.specs.Tokens.{AreTokens, AreTokensOf, IsToken, mark_len}
use Rattle.tl_html_tokens.specs.Whole.{AreWholeTags, IsWhole, bytes_at, is_tag_kind}
use Rattle.tl_html_tokens.specs.declared.mode.Mode.{Mode}
use Rattle.tl_html_tokens.specs.declared.mode.Mode.TheVariants as mode
use Rattle.tl_html_tokens.specs.declared.stage.TokenKind.{TokenKind}
use Rattle.tl_html_tokens.specs.declared.stage.TokenKind.TheVariants as kind
use Rattle.tl_html_tokens.specs.declared.token.Token.{Token}
use Rattle.tl_html_tokens.proofs.Alone.{tags_are_whole}
use Rattle.tl_patch.specs.Places.{begins_start_tag}
use Rattle.tl_patch.specs.Pages.{AreChanged, AreMade, IsPatched}
use Rattle.tl_patch.specs.Inner.Steps.{AreWritten, IsMade, IsPage, is_start_token, mark_of}
use Rattle.tl_patch.specs.PatchView.{PlacedChange, change_of}
use Rattle.tl_patch.proofs.Made.{Made, made_from, name_in}
use Rattle.tl_patch.proofs.Runs.{page_runs_read}
use Rattle.tl_patch_spec.specs.PieceChanges.{GoOnAlike}
use Rattle.tl_patch_spec.proofs.Tag.{tag_in_place}
use Rattle.tl_patch.specs.StartTags.{is_data, is_start_kind}
use Rattle.tl_patch.proofs.Begins.{begins}
use Rattle.tl_patch.proofs.Ended.{start_rests}
use Rattle.tl_patch.proofs.Stands.{Stands, stands}

-- two texts that are the same, or up to a `<`
data Alike (x y : List ℕ) : Type 0 where
  same : x ≡ y → Alike x y
  until : (front u v : List ℕ) → x ≡ front ++ 60 ∷ u → y ≡ front ++ 60 ∷ v → Alike x y

after_both : (p x y : List ℕ) → Alike x y → Alike (p ++ x) (p ++ y)
after_both p x y (same e) = same (ap (λ z. p ++ z) e)
after_both p x y (until front u v a b) =
    until (p ++ front) u v (ap (λ z. p ++ z) a ∙ sym (append_assoc p front (60 ∷ u))) (ap (λ z. p ++ z) b ∙ sym (append_assoc p front (60 ∷ v)))

abbrev has_mark : List ℕ → Bool
has_mark text = starts_with ◌==◌ text (0xEF ∷ 0xBB ∷ 0xBF ∷ [])

front_mark : (front u v : List ℕ) → has_mark (front ++ 60 ∷ u) ≡ has_mark (front ++ 60 ∷ v)
front_mark [] u v = refl
front_mark (a ∷ []) u v = refl
front_mark (a ∷ b ∷ []) u v = refl
front_mark (a ∷ b ∷ c ∷ front) u v = refl

alike_mark : (x y : List ℕ) → Alike x y → has_mark x ≡ has_mark y
alike_mark x y (same e) = ap has_mark e
alike_mark x y (until front u v a b) = ap has_mark a ∙ front_mark front u v ∙ sym (ap has_mark b)

-- pieces that stay, and start tags in the place of others

begins_in : (s : State) (p : Piece) (ps : List Piece) → AreRead s (p ∷ ps) → p.rest ≡ s
begins_in s p [] h = h.0
begins_in s p (q ∷ ps) h = h.1

later_read : (s : State) (p : Piece) (ps qs : List Piece) → GoOnAlike ps qs → ((z : State) → AreRead z ps → AreRead z qs) → AreRead s (p ∷ ps) → AreRead s (p ∷ qs)
later_read s p [] [] g f h = h
later_read s p [] (y ∷ ys) g f h = absurd g
later_read s p (x ∷ xs) [] g f h = absurd g
later_read s p (x ∷ xs) (y ∷ ys) g f h =
    (h.0, h.1, ap (Rattle.tl_html_spec.specs.Pieces.read_before s p.bytes) (sym g) ∙ h.2, h.3, f (h.0).state h.4)

record Becomes (place : ℕ) (ps : List Piece) (changes : List PlacedChange) (bytes : List ℕ) : Type 0 where
  qs : List Piece
  changed : AreChanged (placed place ps) qs changes
  bytes_are : bytes ≡ bytes_of qs
  front : GoOnAlike ps qs
  read : (s : State) → AreRead s ps → AreRead s qs
  alike : Alike (bytes_of ps) (bytes_of qs)

kept_piece : (here : List PlacedChange) (p : Piece) → here ≡ [] → AreMade (map change_of here) p p
kept_piece here p e = subst (λ cs. AreMade (map change_of cs) p p) (sym e) refl

-- what a start tag is
pub record IsTag (page : List ℕ) (t : Token) (p : Piece) : Type 0 where
  pub rest : p.rest ≡ data_state
  pub whole : IsWhole mode.Data p.bytes p.tokens
  pub start : IsStartTag p.tokens

kind_is : (k : TokenKind) → is_start_kind k ≡ true → k ≡ kind.StartTag
kind_is kind.StartTag h = refl
kind_is _ h = absurd (true≢false (sym h))

mode_is : (m : Mode) → is_data m ≡ true → m ≡ mode.Data
mode_is mode.Data h = refl
mode_is _ h = absurd (true≢false (sym h))

pub is_tag : (page : List ℕ) (t : Token) (place : ℕ) (p : Piece) → IsToken page t place p → (is_tag_kind t.kind ≡ true → IsWhole t.mode (bytes_at page t) p.tokens) →
    is_start_token t ≡ true → IsTag page t p
is_tag page t place p h w e =
    let a = and_parts (is_start_kind t.kind) (is_data t.mode) e in
    let k : t.kind ≡ kind.StartTag = kind_is t.kind a.0 in
    let m : t.mode ≡ mode.Data = mode_is t.mode a.1 in
    record {
      rest = h.rest ∙ ap state_of m;
      whole = subst (λ bs. IsWhole mode.Data bs p.tokens) (sym h.bytes) (subst (λ n. IsWhole n (bytes_at page t) p.tokens) m (w (ap is_tag_kind k)));
      start = subst (λ n. IsKind n p.tokens) k h.kind;
    }

first_of_start : (bytes : List ℕ) → begins_start_tag bytes ≡ true → (u : List ℕ) × (bytes ≡ 60 ∷ u)
first_of_start [] h = absurd (true≢false (sym h))
first_of_start (a ∷ []) h = absurd (true≢false (sym h))
first_of_start (a ∷ b ∷ text) h = (b ∷ text, ap (λ c. c ∷ b ∷ text) (eqb-true a 60 (and_parts _ _ h).0))

module _ (page : List ℕ) (t : Token) (p : Piece) (ps : List Piece) (place : ℕ) (here later : List PlacedChange) (put bytes : List ℕ) (all : All (λ (c : PlacedChange). c.place ≡ place) here)
    (more : Becomes (place + length p.bytes) ps later bytes) where
  kept : here ≡ [] → put ≡ p.bytes → Becomes place (p ∷ ps) (here ++ later) (put ++ bytes)
  kept e same_bytes = record {
    qs = p ∷ more.qs;
    changed = (here, later, refl, all, kept_piece here p e, more.changed);
    bytes_are = ap₂ (λ (x y : List ℕ). x ++ y) same_bytes more.bytes_are;
    front = refl;
    read = λ s h. later_read s p ps more.qs more.front more.read h;
    alike = after_both p.bytes (bytes_of ps) (bytes_of more.qs) more.alike;
  }

  exchanged : IsTag page t p → Made (map change_of here) p.bytes p.tokens put → Becomes place (p ∷ ps) (here ++ later) (put ++ bytes)
  exchanged i m =
      let q : Piece = piece data_state put m.tokens in
      let old : Stands p.bytes p.tokens = stands p.bytes p.tokens i.whole i.start in
      let new : Stands put m.tokens = stands put m.tokens m.whole m.start in
      let name : new.name ≡ old.name = sym (ap name_in new.is) ∙ m.name ∙ ap name_in old.is in
      let a = first_of_start p.bytes (begins p.bytes p.tokens i.whole i.start) in
      let b = first_of_start put (begins put m.tokens m.whole m.start) in
      record {
        qs = q ∷ more.qs;
        changed = (here, later, refl, all, subst (λ (r : State). AreMade (map change_of here) (piece r p.bytes p.tokens) q) (sym i.rest) m.made, more.changed);
        bytes_are = ap (λ x. put ++ x) more.bytes_are;
        front = ap first_byte a.1 ∙ sym (ap first_byte b.1);
        read = λ s h.
            let here_read : AreRead s (p ∷ more.qs) = later_read s p ps more.qs more.front more.read h in
            let place_is : s ≡ data_state = sym (begins_in s p ps h) ∙ i.rest in
            subst (λ (z : State). AreRead z (q ∷ more.qs)) (sym place_is)
            (tag_in_place data_state (after_start old.name) p q more.qs (sym i.rest) old.tokens old.state new.tokens (new.state ∙ ap (λ n. at (after_start n)) name)
            (start_rests old.name) (subst (λ (z : State). AreRead z (p ∷ more.qs)) place_is here_read));
        alike = until [] (a.0 ++ bytes_of ps) (b.0 ++ bytes_of more.qs) (ap (λ x. x ++ bytes_of ps) a.1) (ap (λ x. x ++ bytes_of more.qs) b.1);
      }

  one_more : IsToken page t place p → (is_tag_kind t.kind ≡ true → IsWhole t.mode (bytes_at page t) p.tokens) → IsMade here page t put → Becomes place (p ∷ ps) (here ++ later) (put ++ bytes)
  one_more h w m = elim m.start [
    | inl e ↦ kept e (subst (λ cs. Rattle.tl_patch.specs.Inner.Steps.AreTagChanges (map change_of cs) (bytes_at page t) put) e m.made ∙ sym h.bytes)
    | inr e ↦ (
        let i : IsTag page t p = is_tag page t place p h w e in
        exchanged i (made_from (map change_of here) p.bytes put p.tokens m.attributes
        (subst (λ bs. Rattle.tl_patch.specs.Inner.Steps.AreTagChanges (map change_of here) bs put) (sym h.bytes) m.made) i.whole i.start))
  ]

becomes : (page : List ℕ) (ts : List Token) (place : ℕ) (ps : List Piece) (changes : List PlacedChange) (bytes : List ℕ) → AreTokens page ts (placed place ps) → AreWholeTags page ts (placed place ps) →
    AreWritten page ts changes bytes → Becomes place ps changes bytes
becomes page [] place [] changes bytes h w k = record {
  qs = [];
  changed = k.0;
  bytes_are = k.1;
  front = tt;
  read = λ s r. r;
  alike = same refl;
}
becomes page [] place (p ∷ ps) changes bytes h w k = absurd h
becomes page (t ∷ ts) place [] changes bytes h w k = absurd h
becomes page (t ∷ ts) place (p ∷ ps) changes bytes h w k =
    let here : List PlacedChange = k.0 in
    let later : List PlacedChange = k.1 in
    let put : List ℕ = k.2 in
    let rest : List ℕ = k.3 in
    let more : Becomes (place + length p.bytes) ps later rest = becomes page ts (place + length p.bytes) ps later rest h.1 w.1 k.8 in
    let all : All (λ (c : PlacedChange). c.place ≡ place) here = subst (λ n. All (λ (c : PlacedChange). c.place ≡ n) here) (h.0).start k.5 in
    subst (λ cs. Becomes place (p ∷ ps) cs bytes) (sym k.4)
    (subst (λ bs. Becomes place (p ∷ ps) (here ++ later) bs) (sym k.6) (one_more page t p ps place here later put rest all more h.0 w.0 k.7))

-- the whole page

marked : (page bytes : List ℕ) (v : Bool) → has_mark page ≡ v → has_mark bytes ≡ has_mark (if v then drop 3 page else page) →
    (has_mark (take (if v then 3 else 0) page ++ bytes) ≡ v) × (without_mark (take (if v then 3 else 0) page ++ bytes) ≡ bytes)
marked page bytes false e k =
    let m : has_mark bytes ≡ false = k ∙ e in
    (m, ap (λ (v : Bool). if v then drop 3 bytes else bytes) m)
marked [] bytes true e k = absurd (true≢false (sym e))
marked (a ∷ []) bytes true e k = absurd (true≢false (sym e ∙ short_one a))
  where
    short_one : (a : ℕ) → has_mark (a ∷ []) ≡ false
    short_one a = elim (cases_Bool (0xEF == a)) [
      | inl y ↦ rw y refl
      | inr n ↦ rw n refl
    ]
marked (a ∷ b ∷ []) bytes true e k = absurd (true≢false (sym e ∙ short_two a b))
  where
    short_two : (a b : ℕ) → has_mark (a ∷ b ∷ []) ≡ false
    short_two a b = elim (cases_Bool (0xEF == a)) [
      | inl y ↦ elim (cases_Bool (0xBB == b)) [
        | inl z ↦ rw (y, z) refl
        | inr n ↦ rw (y, n) refl
      ]
      | inr n ↦ rw n refl
    ]
marked (a ∷ b ∷ c ∷ page) bytes true e k = (e, ap (λ (v : Bool). if v then bytes else a ∷ b ∷ c ∷ bytes) e)

pub is_patched : (page : List ℕ) (ts : List Token) (changes : List PlacedChange) (text : List ℕ) → AreTokensOf page ts → IsPage page ts changes text → IsPatched changes page text
is_patched page ts changes text h w =
    let ps : List Piece = runs (pieces page) in
    let b : Becomes (mark_len page) ps changes w.bytes = becomes page ts (mark_len page) ps changes w.bytes h (tags_are_whole page ts h) w.written in
    let whole : bytes_of ps ≡ without_mark page = runs_bytes (pieces page) ∙ bytes_are page in
    let alike : has_mark w.bytes ≡ has_mark (without_mark page) = ap has_mark b.bytes_are ∙ sym (alike_mark (bytes_of ps) (bytes_of b.qs) b.alike) ∙ ap has_mark whole in
    let m = marked page w.bytes (has_mark page) refl alike in
    let bytes : without_mark text ≡ bytes_of b.qs = ap without_mark w.is ∙ m.1 ∙ b.bytes_are in
    record {
      becomes = b.qs;
      changed = b.changed;
      mark = ap (λ (v : Bool). if v then 3 else 0) (ap has_mark w.is ∙ m.0);
      bytes = bytes;
      tokens = pieces_made text b.qs (b.read data_state (page_runs_read page)) bytes;
    }
