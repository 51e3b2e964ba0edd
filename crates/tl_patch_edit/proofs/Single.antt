-- What is asked for, with its separators, is one list of splices, but for tags that change.
use Rattle.std.proofs.Common.{◌≡◌, ℕ, Bool, true, ◌-◌, List, [], ◌∷◌, ◌++◌, Option, None, Some, slice_get, drop, take, refl, ap, ap₂, sym, subst, ◌∙◌, true≢false}
use Rattle.std.specs.List.{list_all}
use Rattle.std.proofs.lemmas.Bool.{and_parts}
use Rattle.tl_html_spec.specs.Pieces.{Piece, runs}
use Rattle.tl_patch_spec.specs.Patches.{ArePut, Changed, IsPut, NewContent, NewEndTag, Put, separator_if, with_end}
use Rattle.tl_patch_spec.specs.Splices.{Splice}
use Rattle.tl_patch_edit.specs.Seams.{AreSeparatedFrom, IsSeparated, behind, changes_none, is_new, is_parted_after, is_parted_before, last_of, written_put}

some_same : {A : Type 0} (o : Option A) (x y : A) → o ≡ Some x → o ≡ Some y → x ≡ y
some_same o x y e h = cc

same_put : (p : Piece) (put : Put) (xs ys : List Piece) → is_new put ≡ true → IsPut p put xs → IsPut p put ys → xs ≡ ys
same_put p (Changed change) xs ys n h g = absurd (true≢false (sym n))
same_put p (NewEndTag name) xs ys n h g = h ∙ sym g
same_put p (NewContent content) xs ys n h g = some_same _ xs ys h g

same_puts : (p : Piece) (puts : List Put) (xs ys : List Piece) → list_all is_new puts ≡ true → ArePut p puts xs → ArePut p puts ys → xs ≡ ys
same_puts p [] xs ys n h g = h ∙ sym g
same_puts p (put ∷ puts) xs ys n (a, b, e, h, k) (c, d, f, g, l) =
    let all = and_parts (is_new put) (list_all is_new puts) n in
    e ∙ ap₂ (λ (x y : List Piece). x ++ y) (same_put p put a c all.0 h g) (same_puts p puts b d all.1 k l) ∙ sym f

record Same {front back : Option Piece} {ps : List Piece} {ask : Splice Put} {s t : Splice Piece} (a : IsSeparated front back ps ask s) (b : IsSeparated front back ps ask t) : Type 0 where
  splice : s ≡ t
  written : written_put a.asked.before a.asked.put a.asked.after ≡ written_put b.asked.before b.asked.put b.asked.after

splice_is : (s t : Splice Piece) → s.from ≡ t.from → s.until ≡ t.until → s.put ≡ t.put → s ≡ t
splice_is s t e h k = ap₂ (λ (f : ℕ) (x : ℕ × List Piece). record { from = f; until = x.0; put = x.1 }) e (ap₂ (λ (u : ℕ) (x : List Piece). (u, x)) h k)

one_asked : (front back : Option Piece) (ps : List Piece) (ask : Splice Put) (s t : Splice Piece) → list_all is_new ask.put ≡ true →
    (a : IsSeparated front back ps ask s) (b : IsSeparated front back ps ask t) → Same a b
one_asked front back ps ask s t n a b =
    let place : a.asked.place ≡ b.asked.place = some_same (slice_get (with_end ps) ask.from) a.asked.place b.asked.place a.asked.stands b.asked.stands in
    let put : a.asked.put ≡ b.asked.put =
    same_puts b.asked.place ask.put a.asked.put b.asked.put n (subst (λ (p : Piece). ArePut p ask.put a.asked.put) place a.asked.are_put) b.asked.are_put in
    let before : a.asked.before ≡ b.asked.before = a.before ∙ ap (λ (x : List Piece). is_parted_before front (runs x) back) put ∙ sym b.before in
    let after : a.asked.after ≡ b.asked.after = a.after ∙ ap (λ (x : List Piece). is_parted_after (runs x) back) put ∙ sym b.after in
    let all : separator_if a.asked.before ++ (a.asked.put ++ separator_if a.asked.after) ≡ separator_if b.asked.before ++ (b.asked.put ++ separator_if b.asked.after) =
    ap₂ (λ (v : Bool) (x : List Piece). separator_if v ++ x) before (ap₂ (λ (x : List Piece) (v : Bool). x ++ separator_if v) put after) in
    record {
      splice = splice_is s t (a.asked.from ∙ sym b.asked.from) (a.asked.until ∙ sym b.asked.until) (a.asked.is ∙ all ∙ sym b.asked.is);
      written = ap₂ (λ (v : Bool) (x : List Piece). separator_if v ++ x) before (ap₂ (λ (x : List Piece) (v : Bool). runs x ++ separator_if v) put after);
    }

one_from : (ps : List Piece) (asks : List (Splice Put)) (ss ts : List (Splice Piece)) (last : Option Piece) (place : ℕ) → list_all changes_none asks ≡ true →
    AreSeparatedFrom last place ps asks ss → AreSeparatedFrom last place ps asks ts → ss ≡ ts
one_from ps [] [] [] last place n h g = refl
one_from ps [] [] (t ∷ ts) last place n h g = absurd g
one_from ps [] (s ∷ ss) ts last place n h g = absurd h
one_from ps (a ∷ asks) [] ts last place n h g = absurd h
one_from ps (a ∷ asks) (s ∷ ss) [] last place n h g = absurd g
one_from ps (a ∷ asks) (s ∷ ss) (t ∷ ts) last place n h g =
    let all = and_parts (changes_none a) (list_all changes_none asks) n in
    let front : Option Piece = last_of last (take (a.from - place) (drop place ps)) in
    let same : Same h.0 g.0 = one_asked front (behind ps asks a.until) ps a s t all.0 h.0 g.0 in
    let later : AreSeparatedFrom (last_of front (written_put (h.0).asked.before (h.0).asked.put (h.0).asked.after)) a.until ps asks ts =
    subst (λ (x : List Piece). AreSeparatedFrom (last_of front x) a.until ps asks ts) (sym same.written) g.1 in
    ap₂ (λ (x : Splice Piece) (xs : List (Splice Piece)). x ∷ xs) same.splice (one_from ps asks ss ts _ a.until all.1 h.1 later)

pub one_list : (ps : List Piece) (asks : List (Splice Put)) (ss ts : List (Splice Piece)) → list_all changes_none asks ≡ true →
    AreSeparatedFrom None 0 ps asks ss → AreSeparatedFrom None 0 ps asks ts → ss ≡ ts
one_list ps asks ss ts n h g = one_from ps asks ss ts None 0 n h g
