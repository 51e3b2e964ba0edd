-- What the tokenizer emits of a page can be read again, whatever drives it.
use Rattle.std.proofs.Common.{Bool, List, [], ap, arith, codes, false, if◌then◌else◌, inl, inr, map, refl, sym, true, true≢false, ℕ, ◌&&◌, ◌++◌, ◌==◌, ◌||◌, ◌∙◌, ◌∷◌, ◌≡◌, ◌≤◌}
use Rattle.std.specs.Prelude.{⊤}
use Rattle.std.specs.Char.{to_ascii_lowercase}
use Rattle.std.specs.List.{list_all, starts_with}
use Rattle.std.specs.Str.{bytes_eq}
use Rattle.std.proofs.lemmas.Bool.{and_parts, cases_Bool, cond_both, eqb-true}
use Rattle.tl_html_print.proofs.NoNuls.{both_all}
use Rattle.tl_html_print.proofs.PageComments.{is_bogus, nothing_open, open_all, open_written}
use Rattle.tl_html_print.proofs.PageTokens.{AreAllFit, Holds, IsFit, apart_from, end_fit, low_all, prefix_all, whole_goes}
use Rattle.tl_html_print.specs.ReadAgain.{is_in_doctype}
use Rattle.tl_html_spec.specs.Doctypes.{Doctype, Doctyping, Part, at_part, bogus_rest, doctype_cut, doctype_ended, doctype_step, gone_bogus, in_name, is_bogus as is_bogus_part, is_cut, is_empty, is_quote, keyword_read, name_end, name_start, public_end, public_opened, public_quoted, public_start, system_end, system_opened, system_quoted, system_start, with_name, with_public, with_system}
use Rattle.tl_html_spec.specs.Driven.{DrivenState, DrivenStep, Driver, Driving, Emission, byte_driven, cdata_section, cdata_section_bracket, cdata_section_end, cdata_start, characters, doctype_of, drive, driven_end, driven_step, driven_tokens, ends_with_start, entered, in_doctype, in_state, next_driven, of_step, opens_cdata, passes, plain, taken}
use Rattle.tl_html_spec.specs.HtmlTokenizer as T
use Rattle.tl_html_spec.specs.HtmlTokenizer.{HtmlToken, State, Step, char_of, is_white_space, replacement, whole_step}
use Rattle.tl_html_spec.specs.Reader.{feed}

-- Doctypes: no `>` in a name

pub record HasName (d : Doctyping) : Type 0 where
  pub fits : list_all is_in_doctype d.own.name ≡ true

letter_in_doctype : (x : ℕ) → 97 ≤ x → x ≤ 122 → is_in_doctype x ≡ true
letter_in_doctype x h l = simp (apart_from x 62 h l (omega arith), apart_from x 13 h l (omega arith))

named : (d : Doctyping) (c : ℕ) → (c == 62) ≡ false → (c == 13) ≡ false → HasName d → HasName (with_name c d)
named d c g n h = record {
  fits = both_all is_in_doctype d.own.name (char_of (to_ascii_lowercase c)) h.fits (low_all is_in_doctype c refl letter_in_doctype (λ _. rw (g, n) refl));
}

parted : (p : Part) (d : Doctyping) → HasName d → HasName (at_part p d)
parted p d h = record { fits = h.fits }

gone : (d : Doctyping) → HasName d → HasName (gone_bogus d)
gone d h = record { fits = h.fits }

publicly : (bytes : List ℕ) (d : Doctyping) → HasName d → HasName (with_public bytes d)
publicly bytes d h = record { fits = h.fits }

systematic : (bytes : List ℕ) (d : Doctyping) → HasName d → HasName (with_system bytes d)
systematic bytes d h = record { fits = h.fits }

public_begun : (c : ℕ) (d : Doctyping) → HasName d → HasName (public_opened c d)
public_begun c d h = record { fits = h.fits }

system_begun : (c : ℕ) (d : Doctyping) → HasName d → HasName (system_opened c d)
system_begun c d h = record { fits = h.fits }

either : (v : Bool) (x y : Doctyping) → HasName x → HasName y → HasName (if v then x else y)
either true x y h k = h
either false x y h k = k

keyword : (word : List ℕ) (d : Doctyping) → HasName d → HasName (keyword_read word d)
keyword word d h =
    either (bytes_eq word (codes "public")) _ _ (parted public_start d h)
    (either (bytes_eq word (codes "system")) _ _ (parted system_start d h)
    (either (starts_with ◌==◌ (codes "public") word || starts_with ◌==◌ (codes "system") word) _ _ (parted (name_end word) d h) (gone d h)))

doctype_goes : (p : Part) (d : Doctyping) (c : ℕ) → (c == 62) ≡ false → (c == 13) ≡ false → HasName d → HasName (doctype_step p d c)
doctype_goes name_start d c g n h = either (is_white_space c) _ _ h (named d c g n h)
doctype_goes in_name d c g n h = either (is_white_space c) _ _ (parted (name_end []) d h) (named d c g n h)
doctype_goes (name_end word) d c g n h = either (is_white_space c && is_empty word) _ _ h (keyword (word ++ to_ascii_lowercase c ∷ []) d h)
doctype_goes public_start d c g n h = either (is_white_space c) _ _ h (either (is_quote c) _ _ (public_begun c d h) (gone d h))
doctype_goes (public_quoted quote) d c g n h = either (c == quote) _ _ (parted public_end d h) (publicly (char_of c) d h)
doctype_goes public_end d c g n h = either (is_white_space c) _ _ h (either (is_quote c) _ _ (system_begun c d h) (gone d h))
doctype_goes system_start d c g n h = either (is_white_space c) _ _ h (either (is_quote c) _ _ (system_begun c d h) (gone d h))
doctype_goes (system_quoted quote) d c g n h = either (c == quote) _ _ (parted system_end d h) (systematic (char_of c) d h)
doctype_goes system_end d c g n h = either (is_white_space c) _ _ h (parted bogus_rest d h)
doctype_goes bogus_rest d c g n h = h

abbrev pub IsFitDoctype : Doctype → Type 0
IsFitDoctype own = list_all is_in_doctype own.name ≡ true

ended_fits : (d : Doctyping) → HasName d → IsFitDoctype (doctype_ended d)
ended_fits d h = cond_both (is_cut d.part) _ _ IsFitDoctype (λ _. h.fits) (λ _. h.fits)

cut_fits : (d : Doctyping) → HasName d → IsFitDoctype (doctype_cut d)
cut_fits d h = cond_both (is_bogus_part d.part) _ _ IsFitDoctype (λ _. h.fits) (λ _. h.fits)

-- Emissions

abbrev pub IsFitEmission : Emission → Type 0
IsFitEmission (plain token) = IsFit token
IsFitEmission (doctype_of own) = IsFitDoctype own

abbrev pub AreFitEmissions : List Emission → Type 0
AreFitEmissions [] = ⊤
AreFitEmissions (e ∷ es) = IsFitEmission e × AreFitEmissions es

emissions_append : (es fs : List Emission) → AreFitEmissions es → AreFitEmissions fs → AreFitEmissions (es ++ fs)
emissions_append [] fs h k = k
emissions_append (e ∷ es) fs h k = (h.0, emissions_append es fs h.1 k)

plainly_fit : (ts : List HtmlToken) → AreAllFit ts → AreFitEmissions (map plain ts)
plainly_fit [] h = tt
plainly_fit (t ∷ ts) h = (h.0, plainly_fit ts h.1)

abbrev pub HoldsDriven : DrivenState → Type 0
HoldsDriven (in_state s) = Holds s
HoldsDriven (cdata_start buffer) = list_all is_bogus buffer ≡ true
HoldsDriven (in_doctype d) = HasName d
HoldsDriven _ = ⊤

GoesOn : DrivenStep → Type 0
GoesOn x = AreFitEmissions x.emits × HoldsDriven x.next

on : (s : DrivenState) (bytes : List Emission) → AreFitEmissions bytes → HoldsDriven s → GoesOn (record { next = s; emits = bytes })
unfolding GoesOn
on s bytes e h = (e, h)

entered_holds : (s : State) → Holds s → HoldsDriven (entered s)
entered_holds T.doctype h = record { fits = refl }
entered_holds s h = h

of_whole : (s : State) (c : ℕ) → (c == 13) ≡ false → Holds s → GoesOn (of_step (whole_step s c))
unfolding GoesOn
of_whole s c n h = let w = whole_goes s c n h in (plainly_fit (whole_step s c).emits w.0, entered_holds (whole_step s c).next w.1)

bracket : (f : Bool) (s : State) (c : ℕ) → (f && opens_cdata s c) ≡ true → list_all is_bogus (c ∷ []) ≡ true
bracket f (T.markup_declaration_open []) c o = rw (eqb-true c 91 (and_parts f (c == 91) o).1) refl
bracket f _ c o = absurd (true≢false (sym (and_parts f false o).1))

pick : (v : Bool) (x y : DrivenStep) → (v ≡ true → GoesOn x) → (v ≡ false → GoesOn y) → GoesOn (if v then x else y)
pick true x y h k = h refl
pick false x y h k = k refl

driven_goes : (f : Bool) (s : DrivenState) (c : ℕ) → (c == 13) ≡ false → HoldsDriven s → GoesOn (driven_step f s c)
driven_goes f (in_state s) c n h = pick (f && opens_cdata s c) _ _ (λ o. on (cdata_start (c ∷ [])) [] tt (bracket f s c o)) (λ _. of_whole s c n h)
driven_goes f (cdata_start buffer) c n h =
    pick (bytes_eq (buffer ++ c ∷ []) (codes "[CDATA[")) _ _ (λ _. on cdata_section [] tt tt)
    (λ _. pick (starts_with ◌==◌ (codes "[CDATA[") (buffer ++ c ∷ [])) _ _ (λ o. on (cdata_start (buffer ++ c ∷ [])) [] tt (prefix_all is_bogus (codes "[CDATA[") (buffer ++ c ∷ []) refl o))
    (λ _. of_whole (T.bogus_comment buffer) c n (open_all [] buffer nothing_open h)))
driven_goes f cdata_section c n h = pick (c == 93) _ _ (λ _. on cdata_section_bracket [] tt tt) (λ _. on cdata_section (characters (c ∷ [])) (tt, tt) tt)
driven_goes f cdata_section_bracket c n h =
    pick (c == 93) _ _ (λ _. on cdata_section_end [] tt tt) (λ _. on cdata_section (characters (93 ∷ c ∷ [])) (tt, (tt, tt)) tt)
driven_goes f cdata_section_end c n h =
    pick (c == 93) _ _ (λ _. on cdata_section_end (characters (93 ∷ [])) (tt, tt) tt)
    (λ _. pick (c == 62) _ _ (λ _. on (in_state T.data_state) [] tt tt) (λ _. on cdata_section (characters (93 ∷ 93 ∷ c ∷ [])) (tt, (tt, (tt, tt))) tt))
driven_goes f (in_doctype d) c n h =
    pick (c == 62) _ _ (λ _. on (in_state T.data_state) (doctype_of (doctype_ended d) ∷ []) (ended_fits d h, tt) tt)
    (λ g. on (in_doctype (doctype_step d.part d c)) [] tt (doctype_goes d.part d c g n h))

feed_is : (b : ℕ) → (feed b == 13) ≡ false
feed_is b = elim (cases_Bool (b == 13)) [ inl y ↦ rw y refl | inr n ↦ ap (λ v. (if v then 10 else b) == 13) n ∙ n ]

byte_goes : (passed f : Bool) (s : DrivenState) (b : ℕ) → HoldsDriven s → GoesOn (byte_driven passed f s b)
byte_goes true f s b h = on s [] tt h
byte_goes false f s b h = driven_goes f s (feed b) (feed_is b) h

end_goes : (s : DrivenState) → HoldsDriven s → AreFitEmissions (driven_end s)
end_goes (in_state s) h = plainly_fit (T.at_end s) (end_fit s h)
end_goes (cdata_start buffer) h = (open_written buffer (open_all [] buffer nothing_open h), tt)
end_goes cdata_section h = tt
end_goes cdata_section_bracket h = (tt, tt)
end_goes cdata_section_end h = (tt, (tt, tt))
end_goes (in_doctype d) h = (cut_fits d h, tt)

-- a driver that keeps something of what it remembers, where it sets such states alone

module _ {M : Type 0} (d : Driver M) (Keeps : M → Type 0) (takes : (m : M) (e : Emission) → Keeps m → Keeps (d.take m e)) (sets : (m : M) → Keeps m → Holds (d.sets m)) where
  taken_keeps : (m : M) (es : List Emission) → Keeps m → Keeps (taken d m es)
  taken_keeps m [] k = k
  taken_keeps m (e ∷ es) k = taken_keeps (d.take m e) es (takes m e k)

  drive_goes : (v : Driving M) (b : ℕ) → HoldsDriven v.state → GoesOn (drive d v b)
  unfolding drive
  drive_goes v b h = byte_goes (passes v b) (d.is_foreign v.memory) v.state b h

  pub driven_fits : (v : Driving M) (text : List ℕ) → Keeps v.memory → HoldsDriven v.state → AreFitEmissions (driven_tokens d v text)
  unfolding GoesOn
  driven_fits v [] k h = end_goes v.state h
  driven_fits v (b ∷ text) k h =
      let x = drive d v b in
      let goes = drive_goes v b h in
      let later = taken_keeps v.memory x.emits k in
      emissions_append x.emits (driven_tokens d (next_driven d v b) text) goes.0
      (driven_fits (next_driven d v b) text later
      (cond_both (ends_with_start x.emits) _ _ HoldsDriven (λ _. sets (taken d v.memory x.emits) later) (λ _. goes.1)))
