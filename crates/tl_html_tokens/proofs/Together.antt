-- Texts side by side stand in front of a page as one.
use Rattle.std.proofs.Common.{◌≡◌, ◌<◌, ℕ, Bool, true, false, ◌==◌, ◌||◌, ◌&&◌, List, [], ◌∷◌, ◌++◌, length, drop, Some, None, refl, ap, ap₂, sym, subst, ◌∙◌, inl, inr, arith, append-nil, append_assoc}
use Rattle.std.proofs.lemmas.Bool.{and_parts, cases_Bool, eqb-true}
use Rattle.std.proofs.lemmas.List.{append_cancel_left}
use Rattle.tl_html_spec.specs.HtmlTokenizer as T
use Rattle.tl_html_spec.specs.HtmlTokenizer.{HtmlToken, State, at_end}
use Rattle.tl_html_spec.specs.Driven.{opens_cdata}
use Rattle.tl_html_spec.specs.Pieces.{Piece, are_characters, piece, pieces_from, runs, tokens_in, with_piece}
use Rattle.tl_html_spec.specs.Reader.{Reader, Rest, after, at, emitted, feed, is_passed, next, read, rest_before, rest_if, rest_within, tokens_of}
use Rattle.tl_html_spec.proofs.Cutting.{none_or_some, runs_tokens, tokens_end, tokens_joined}
use Rattle.tl_html_spec.proofs.Fold.{after_append, emitted_append, tokens_append}
use Rattle.tl_html_spec.proofs.Resting.{after_rest, emitted_rest}
use Rattle.tl_html_tokens.specs.Ends.{NoStart, Pends, StandsFor, StartsLast, opens}
use Rattle.tl_html_tokens.specs.Fronts.{IsFront, pieces_at}
use Rattle.tl_html_tokens.specs.Modes.{state_of}
use Rattle.tl_html_tokens.specs.declared.mode.Mode.{Mode}
use Rattle.tl_html_tokens.specs.declared.stage.TokenKind.TheVariants as kind
use Rattle.tl_html_tokens.proofs.Cuts.{first_is, later_is}
use Rattle.tl_html_tokens.proofs.Early.{chars_quiet, opens_at}
use Rattle.tl_html_tokens.proofs.Joining.{between_both, both, chars_join, joins, with_chars}
use Rattle.tl_html_tokens.proofs.Places.{between, between_length, cut}
use Rattle.tl_html_tokens.proofs.Reached.{opens_append, quiet_left, quiet_right}

-- a text is cut where the machine is at rest

pieces_cut : (s : State) (r : Reader) (acc : List ℕ) (ts : List HtmlToken) (x : List ℕ) (c : ℕ) (t : List ℕ) (rest : Rest) → rest_before (after r x) c ≡ Some rest →
    at_end (after r x).state ≡ rest.emits → pieces_from s r acc ts (x ++ c ∷ t) ≡ pieces_from s r acc ts x ++ pieces_at rest.state (c ∷ t)
pieces_cut s r acc ts [] c t rest e h = rw (e, pieces_from) (ap (λ us. piece s acc (ts ++ us) ∷ pieces_at rest.state (c ∷ t)) (sym h))
pieces_cut s r acc ts (b ∷ x) c t rest e h = elim (none_or_some (rest_before r b)) [
  | inl n ↦ rw (n, pieces_from) (pieces_cut s (next r b) (acc ++ b ∷ []) (ts ++ emitted r (b ∷ [])) x c t rest e h)
  | inr k ↦ rw (k.1, pieces_from) (
      let q : State = (k.0).state in
      let same : after r (b ∷ x) ≡ after (at q) (b ∷ x) = after_rest r b x k.0 k.1 in
      ap (λ ps. piece s acc (ts ++ (k.0).emits) ∷ ps)
      (pieces_cut q (next (at q) b) (b ∷ []) (emitted (at q) (b ∷ [])) x c t rest (subst (λ (y : Reader). rest_before y c ≡ Some rest) same e)
      (subst (λ (y : Reader). at_end y.state ≡ rest.emits) same h)))
]

at_cut : (s : State) (x : List ℕ) (c : ℕ) (t : List ℕ) (rest : Rest) → 0 < length x → rest_before (after (at s) x) c ≡ Some rest → at_end (after (at s) x).state ≡ rest.emits →
    pieces_at s (x ++ c ∷ t) ≡ pieces_at s x ++ pieces_at rest.state (c ∷ t)
at_cut s [] c t rest l e h = absurd (omega arith)
at_cut s (b ∷ x) c t rest l e h = pieces_cut s (next (at s) b) (b ∷ []) (emitted (at s) (b ∷ [])) x c t rest e h

-- pieces that are one run of characters are joined to those after them

none_runs : (p : Piece) (rs : List Piece) → with_piece p rs ≡ [] → ⊥
none_runs p [] e = let no : p ∷ [] ≡ [] = e in cc
none_runs p (r ∷ rs) e = elim (cases_Bool (are_characters p.tokens && are_characters r.tokens)) [
  | inl y ↦ (let no : both p r ∷ rs ≡ [] = rw (y, with_piece) at e in cc)
  | inr n ↦ (let no : p ∷ r ∷ rs ≡ [] = rw (n, with_piece) at e in cc)
]

append_run : (a b : Piece) (ps qs : List Piece) (p : Piece) (us : List Piece) → runs (b ∷ ps) ≡ us → with_piece a us ≡ p ∷ [] →
    ((u : Piece) → runs (b ∷ ps) ≡ u ∷ [] → runs ((b ∷ ps) ++ qs) ≡ with_piece u (runs qs)) → runs ((a ∷ b ∷ ps) ++ qs) ≡ with_piece p (runs qs)
append_run a b ps qs p [] k e more = absurd (none_runs b (runs ps) k)
append_run a b ps qs p (u ∷ us) k e more = elim (cases_Bool (are_characters a.tokens && are_characters u.tokens)) [
  | inl y ↦ (
      let one : both a u ∷ us ≡ p ∷ [] = rw (y, with_piece) at e in
      let h = and_parts (are_characters a.tokens) (are_characters u.tokens) y in
      ap (with_piece a) (more u (k ∙ ap (λ vs. u ∷ vs) (later_is (both a u) p us [] one)))
      ∙ joins a u (runs qs) h.0 h.1
      ∙ ap (λ (x : Piece). with_piece x (runs qs)) (first_is (both a u) p us [] one))
  | inr n ↦ (let two : a ∷ u ∷ us ≡ p ∷ [] = rw (n, with_piece) at e in
      let no : u ∷ us ≡ [] = later_is a p (u ∷ us) [] two in cc)
]

runs_append : (ps qs : List Piece) (p : Piece) → runs ps ≡ p ∷ [] → runs (ps ++ qs) ≡ with_piece p (runs qs)
runs_append [] qs p e = let no : [] ≡ p ∷ [] = e in cc
runs_append (a ∷ []) qs p e = let is : a ∷ [] ≡ p ∷ [] = e in ap (λ (x : Piece). with_piece x (runs qs)) (first_is a p [] [] is)
runs_append (a ∷ b ∷ ps) qs p e = append_run a b ps qs p (runs (b ∷ ps)) refl e (runs_append (b ∷ ps) qs)

-- what is read of bytes by themselves

tokens_at : (s : State) (x : List ℕ) → 0 < length x → tokens_in (pieces_at s x) ≡ tokens_of (at s) x
tokens_at s [] l = absurd (omega arith)
tokens_at s (b ∷ x) l = tokens_joined s (next (at s) b) (b ∷ []) (emitted (at s) (b ∷ [])) x ∙ sym (tokens_append (at s) (b ∷ []) x)

starts_of : (r : Reader) (x : List ℕ) → NoStart (emitted r x) → StartsLast r x
starts_of r [] n = tt
starts_of r (b ∷ []) n = tt
starts_of r (b ∷ c ∷ x) n =
    (quiet_left (read r b).emits (emitted (next r b) (c ∷ x)) n, starts_of (next r b) (c ∷ x) (quiet_right (read r b).emits (emitted (next r b) (c ∷ x)) n))

-- no `[` opens a section where the machine is at rest

section_rests : (passed : Bool) (b : ℕ) (rest : Rest) → (feed b == 91) ≡ true → rest_if passed (T.markup_declaration_open []) b ≡ Some rest → ⊥
section_rests true b rest e h = cc
section_rests false b rest e h =
    let never : None ≡ Some rest = sym (ap (rest_within 2 (T.markup_declaration_open [])) (eqb-true (feed b) 91 e)) ∙ h in
    cc

closed_at_rest : (r : Reader) (b : ℕ) (rest : Rest) → rest_before r b ≡ Some rest → opens_cdata r.state (feed b) ≡ false
unfolding rest_before
closed_at_rest r b rest e = elim (cases_Bool (opens_cdata r.state (feed b))) [
  | inl y ↦ (
      let o = opens_at r.state (feed b) y in
      absurd (section_rests (is_passed r b) b rest o.1 (subst (λ (s : State). rest_if (is_passed r b) s b ≡ Some rest) o.0 e)))
  | inr n ↦ n
]

or_right : (u v : Bool) → (u || v) ≡ false → v ≡ false
or_right true v h = cc
or_right false v h = h

-- two texts

module _ (page : List ℕ) (start : ℕ) (m n o : Mode) (e f : ℕ) (a : IsFront page start m (record { kind = kind.Text; end = e; mode = n }))
    (d : IsFront page e n (record { kind = kind.Text; end = f; mode = o })) (k : opens (at (state_of m)) (between page start e) ≡ false)
    (l : opens (at (state_of n)) (between page e f) ≡ false) where
  abbrev s : State
  s = state_of m

  abbrev x : List ℕ
  x = between page start e

  abbrev y : List ℕ
  y = between page e f

  abbrev later : List ℕ
  later = drop f page

  some : 0 < length x
  some = let q = a.order in let w = a.within in let z = between_length page start e (omega arith) (omega arith) in omega arith

  all : x ++ y ≡ between page start f
  all = let q = a.order in let w = d.order in between_both page start e f (omega arith) (omega arith)

  abbrev r : Reader
  r = after (at s) x

  abbrev pending : List HtmlToken
  pending = (a.stands).pending

  abbrev at_rest : Rest
  at_rest = record { state = state_of n; emits = pending }

  pending_ends : at_end r.state ≡ pending
  pending_ends =
      let told : tokens_of (at s) x ≡ a.tokens =
      sym (tokens_at s x some) ∙ sym (runs_tokens (pieces_at s x)) ∙ ap tokens_in a.alone ∙ append-nil a.tokens in
      append_cancel_left (emitted (at s) x) (at_end r.state) pending (tokens_end (at s) x ∙ told ∙ (a.stands).told)

  module _ (c : ℕ) (z : List ℕ) (is : y ≡ c ∷ z) where
    rested : rest_before r c ≡ Some at_rest
    rested =
        let w = d.order in
        let on : drop e page ≡ c ∷ (z ++ later) = sym (cut page e f (omega arith)) ∙ ap (λ v. v ++ later) is in
        subst (λ v. Pends r v (state_of n) pending) on (a.stands).ends

    alone_is : runs (pieces_at s (x ++ y)) ≡ piece s (x ++ y) (a.tokens ++ d.tokens) ∷ []
    alone_is =
        ap (λ v. runs (pieces_at s (x ++ v))) is
        ∙ ap runs (at_cut s x c z at_rest some rested pending_ends)
        ∙ runs_append (pieces_at s x) (pieces_at (state_of n) (c ∷ z)) (piece s x a.tokens) a.alone
        ∙ ap (λ v. with_piece (piece s x a.tokens) (runs (pieces_at (state_of n) v))) (sym is)
        ∙ ap (with_piece (piece s x a.tokens)) d.alone
        ∙ with_chars (piece s x a.tokens) (piece (state_of n) y d.tokens) [] a.kind d.kind

    told_is : a.tokens ++ d.tokens ≡ emitted (at s) (x ++ y) ++ (d.stands).pending
    told_is =
        let p : List HtmlToken = (d.stands).pending in
        ap₂ (λ us vs. us ++ vs) (a.stands).told (d.stands).told
        ∙ append_assoc (emitted (at s) x) pending (emitted (at (state_of n)) y ++ p)
        ∙ ap (λ us. emitted (at s) x ++ us) (sym (append_assoc pending (emitted (at (state_of n)) y) p)
        ∙ ap (λ us. us ++ p) (ap (λ v. pending ++ emitted (at (state_of n)) v) is ∙ sym (emitted_rest r c z at_rest rested) ∙ ap (emitted r) (sym is)))
        ∙ sym (append_assoc (emitted (at s) x) (emitted r y) p)
        ∙ ap (λ us. us ++ p) (sym (emitted_append (at s) x y))

    ends_is : after (at s) (x ++ y) ≡ after (at (state_of n)) y
    ends_is = after_append (at s) x y ∙ ap (after r) is ∙ after_rest r c z at_rest rested ∙ ap (after (at (state_of n))) (sym is)

    opened_is : opens (at s) (x ++ y) ≡ false
    opened_is =
        let on : next r c ≡ next (at (state_of n)) c = after_rest r c [] at_rest rested in
        let more : opens (next (at (state_of n)) c) z ≡ false = or_right (opens_cdata (state_of n) (feed c)) (opens (next (at (state_of n)) c) z) (ap (opens (at (state_of n))) (sym is) ∙ l) in
        opens_append (at s) x y ∙ ap (λ v. v || opens r y) k ∙ ap (opens r) is
        ∙ ap₂ ◌||◌ (closed_at_rest r c at_rest rested) (ap (λ (q : Reader). opens q z) on ∙ more)

    starts_is : StartsLast (at s) (x ++ y)
    starts_is =
        let quiet = chars_quiet (a.tokens ++ d.tokens) (chars_join a.tokens d.tokens a.kind d.kind) in
        starts_of (at s) (x ++ y) (quiet_left (emitted (at s) (x ++ y)) (d.stands).pending (subst NoStart told_is quiet))

    both_front : IsFront page start m (record { kind = kind.Text; end = f; mode = o })
    both_front =
        let q = a.order in
        let w = d.order in
        record {
          tokens = a.tokens ++ d.tokens;
          kind = chars_join a.tokens d.tokens a.kind d.kind;
          order = omega arith;
          within = d.within;
          read = a.read ∙ ap (with_piece (piece s x a.tokens)) d.read
              ∙ joins (piece s x a.tokens) (piece (state_of n) y d.tokens) (runs (pieces_at (state_of o) later)) a.kind d.kind
              ∙ ap (λ v. with_piece (piece s v (a.tokens ++ d.tokens)) (runs (pieces_at (state_of o) later))) all;
          alone = subst (λ v. runs (pieces_at s v) ≡ piece s v (a.tokens ++ d.tokens) ∷ []) all alone_is;
          stands = subst (λ v. StandsFor s v later (state_of o) (a.tokens ++ d.tokens)) all (record {
            pending = (d.stands).pending;
            told = told_is;
            ends = subst (λ (v : Reader). Pends v later (state_of o) (d.stands).pending) (sym ends_is) (d.stands).ends;
            opens_first = inl opened_is;
            starts_last = starts_is;
          });
        }

  pub fronts_join : IsFront page start m (record { kind = kind.Text; end = f; mode = o })
  fronts_join = by y refl
    where
      by : (v : List ℕ) → y ≡ v → IsFront page start m (record { kind = kind.Text; end = f; mode = o })
      by [] g = let q = d.order in let w = d.within in let z = between_length page e f (omega arith) (omega arith) in let none : length y ≡ 0 = ap length g in absurd (omega arith)
      by (c ∷ z) g = both_front c z g
