-- How the tokenizer of the standard reads what is printed of comments.
use Rattle.std.proofs.Common.{Bool, List, [], ap, append-nil, append_assoc, codes, false, if◌then◌else◌, inl, inr, not, refl, subst, sym, true, true≢false, ℕ, ◌&&◌, ◌++◌, ◌==◌, ◌∙◌, ◌≡◌, ◌||◌, ◌∷◌}
use Rattle.std.proofs.lemmas.Bool.{and_parts, cases_Bool, eqb-true, not-true}
use Rattle.tl_html_print.proofs.Reread.{Reads, neither, one, quietly}
use Rattle.tl_html_print.specs.ReadAgain.{IsReadAs, goes_on, is_kept_in_value, is_plain_comment}
use Rattle.tl_html_print.specs.Serialized.{serialized_comment}
use Rattle.tl_html_spec.proofs.Resting.{neither_again, settled_at_once}
use Rattle.tl_html_spec.specs.HtmlTokenizer.{CommentToken, HtmlToken, State, Step, again_in, comment, comment_end, comment_end_dash, comment_less_than_sign, comment_less_than_sign_bang, comment_less_than_sign_bang_dash, comment_less_than_sign_bang_dash_dash, comment_start, comment_start_dash, data_state, emitting_token, replacement, settled, step, to, whole_step}
use Rattle.tl_html_spec.specs.Reader.{after, emitted, read}

abbrev close : List ℕ
close = codes "-->"

abbrev pub says : List ℕ → List HtmlToken
says bytes = CommentToken bytes ∷ []

-- a byte that is read once more is read as where it is read then
pub once : (s t : State) (b : ℕ) → step s b ≡ again_in t → (step t b).again ≡ false → whole_step s b ≡ whole_step t b
once s t b e h = ap (λ x. settled 3 x b) e ∙ settled_at_once 2 (step t b) b h ∙ sym (settled_at_once 3 (step t b) b h)

pub twice : (s t u : State) (b : ℕ) → step s b ≡ again_in t → step t b ≡ again_in u → (step u b).again ≡ false → whole_step s b ≡ whole_step u b
twice s t u b e k h = ap (λ x. settled 3 x b) e ∙ ap (λ (x : Step). settled 2 x b) k ∙ settled_at_once 1 (step u b) b h ∙ sym (settled_at_once 3 (step u b) b h)

alike : (s t u : State) (b : ℕ) (more : List ℕ) (tokens : List HtmlToken) → (b == 13) ≡ false → whole_step s b ≡ whole_step t b → Reads t (b ∷ more) tokens u → Reads s (b ∷ more) tokens u
unfolding read
alike s t u b more tokens n e h =
    let keep = λ (v : Bool) (x : Step). x.emits ++ emitted (record { state = x.next; after_return = v }) more in
    let go = λ (v : Bool) (x : Step). after (record { state = x.next; after_return = v }) more in
    record {
      tokens_are = ap (λ (v : Bool). keep v (whole_step s (if v then 10 else b))) n
          ∙ ap (keep false) e
          ∙ (sym (ap (λ (v : Bool). keep v (whole_step t (if v then 10 else b))) n) ∙ h.tokens_are);
      state_is = ap (λ (v : Bool). go v (whole_step s (if v then 10 else b))) n
          ∙ ap (go false) e
          ∙ (sym (ap (λ (v : Bool). go v (whole_step t (if v then 10 else b))) n) ∙ h.state_is);
    }

pub in-comment-once : (acc : List ℕ) (b : ℕ) → (step (comment acc) b).again ≡ false
in-comment-once acc b = neither_again (b == 60) _ _ refl (neither_again (b == 45) _ _ refl refl)

comment_step : List ℕ → ℕ → Bool → Bool → Bool → Step
comment_step acc b less dash nul =
    if less then to (comment_less_than_sign (acc ++ b ∷ []))
    else if dash then to (comment_end_dash acc)
    else to (comment (acc ++ (if nul then replacement else b ∷ [])))

pub plain-step : (acc : List ℕ) (b : ℕ) → (b == 60) ≡ false → (b == 45) ≡ false → (b == 0) ≡ false → step (comment acc) b ≡ to (comment (acc ++ b ∷ []))
unfolding comment_step
plain-step acc b l d z =
    ap (λ v. comment_step acc b v (b == 45) (b == 0)) l
    ∙ ap (λ v. comment_step acc b false v (b == 0)) d
    ∙ ap (λ v. comment_step acc b false false v) z

less_step : List ℕ → ℕ → Bool → Bool → Step
less_step acc b bang less =
    if bang then to (comment_less_than_sign_bang (acc ++ b ∷ []))
    else if less then to (comment_less_than_sign (acc ++ b ∷ []))
    else again_in (comment acc)

pub less-step : (acc : List ℕ) (b : ℕ) → (b == 33) ≡ false → (b == 60) ≡ false → step (comment_less_than_sign acc) b ≡ again_in (comment acc)
unfolding less_step
less-step acc b e l = ap (λ v. less_step acc b v (b == 60)) e ∙ ap (λ v. less_step acc b false v) l

bang_step : List ℕ → Bool → Step
bang_step acc dash = if dash then to (comment_less_than_sign_bang_dash acc) else again_in (comment acc)

pub bang-step : (acc : List ℕ) (b : ℕ) → (b == 45) ≡ false → step (comment_less_than_sign_bang acc) b ≡ again_in (comment acc)
unfolding bang_step
bang-step acc b d = ap (bang_step acc) d

dash_step : List ℕ → Bool → Step
dash_step acc dash = if dash then to (comment_end acc) else again_in (comment (acc ++ codes "-"))

pub dash-step : (acc : List ℕ) (b : ℕ) → (b == 45) ≡ false → step (comment_end_dash acc) b ≡ again_in (comment (acc ++ codes "-"))
unfolding dash_step
dash-step acc b d = ap (dash_step acc) d

bang_dash_step : List ℕ → Bool → Step
bang_dash_step acc dash = if dash then to (comment_less_than_sign_bang_dash_dash acc) else again_in (comment_end_dash acc)

pub bang-dash-step : (acc : List ℕ) (b : ℕ) → (b == 45) ≡ false → step (comment_less_than_sign_bang_dash acc) b ≡ again_in (comment_end_dash acc)
unfolding bang_dash_step
bang-dash-step acc b d = ap (bang_dash_step acc) d

-- bytes that begin with another byte than `-`
abbrev BeginsOtherwise : List ℕ → Type 0
BeginsOtherwise [] = ⊥
BeginsOtherwise (b ∷ bytes) = (b == 45) ≡ false

-- what is left of a comment is read as that, from the states in it
record IsRead (bytes : List ℕ) : Type 0 where
  in_comment : (acc : List ℕ) → Reads (comment acc) (bytes ++ close) (says (acc ++ bytes)) data_state
  less : (acc : List ℕ) → Reads (comment_less_than_sign acc) (bytes ++ close) (says (acc ++ bytes)) data_state
  bang : (acc : List ℕ) → Reads (comment_less_than_sign_bang acc) (bytes ++ close) (says (acc ++ bytes)) data_state
  dash : (acc : List ℕ) → BeginsOtherwise bytes → Reads (comment_end_dash acc) (bytes ++ close) (says (acc ++ (45 ∷ bytes))) data_state
  bang_dash : (acc : List ℕ) → BeginsOtherwise bytes → Reads (comment_less_than_sign_bang_dash acc) (bytes ++ close) (says (acc ++ (45 ∷ bytes))) data_state

ends-comment : (acc : List ℕ) → Reads (comment acc) close (says acc) data_state
unfolding read
ends-comment acc = record { tokens_are = refl; state_is = refl }

ends-less : (acc : List ℕ) → Reads (comment_less_than_sign acc) close (says acc) data_state
unfolding read
ends-less acc = record { tokens_are = refl; state_is = refl }

ends-bang : (acc : List ℕ) → Reads (comment_less_than_sign_bang acc) close (says acc) data_state
unfolding read
ends-bang acc = record { tokens_are = refl; state_is = refl }

at-end : (s : State) (acc : List ℕ) → Reads s close (says acc) data_state → Reads s close (says (acc ++ [])) data_state
at-end s acc h = subst (λ x. Reads s close (says x) data_state) (sym (append-nil acc)) h

nothing-left : IsRead []
nothing-left = record {
  in_comment = λ acc. at-end (comment acc) acc (ends-comment acc);
  less = λ acc. at-end (comment_less_than_sign acc) acc (ends-less acc);
  bang = λ acc. at-end (comment_less_than_sign_bang acc) acc (ends-bang acc);
  dash = λ acc none. absurd none;
  bang_dash = λ acc none. absurd none;
}

-- a byte that is a part of the comment, and what is behind it
takes : (s t : State) (b : ℕ) (bytes acc : List ℕ) → Reads s (b ∷ []) [] t → Reads t (bytes ++ close) (says ((acc ++ b ∷ []) ++ bytes)) data_state → Reads s ((b ∷ bytes) ++ close) (says (acc ++ (b ∷ bytes))) data_state
takes s t b bytes acc h k =
    subst (λ x. Reads s (b ∷ (bytes ++ close)) (says x) data_state) (append_assoc acc (b ∷ []) bytes)
    (quietly s t data_state (b ∷ []) (bytes ++ close) (says ((acc ++ b ∷ []) ++ bytes)) h k)

less-taken : (acc : List ℕ) → Reads (comment acc) (60 ∷ []) [] (comment_less_than_sign (acc ++ 60 ∷ []))
unfolding read
less-taken acc = record { tokens_are = refl; state_is = refl }

less-again : (acc : List ℕ) → Reads (comment_less_than_sign acc) (60 ∷ []) [] (comment_less_than_sign (acc ++ 60 ∷ []))
unfolding read
less-again acc = record { tokens_are = refl; state_is = refl }

bang-taken : (acc : List ℕ) → Reads (comment_less_than_sign acc) (33 ∷ []) [] (comment_less_than_sign_bang (acc ++ 33 ∷ []))
unfolding read
bang-taken acc = record { tokens_are = refl; state_is = refl }

dash-taken : (acc : List ℕ) → Reads (comment acc) (45 ∷ []) [] (comment_end_dash acc)
unfolding read
dash-taken acc = record { tokens_are = refl; state_is = refl }

bang-dash-taken : (acc : List ℕ) → Reads (comment_less_than_sign_bang acc) (45 ∷ []) [] (comment_less_than_sign_bang_dash acc)
unfolding read
bang-dash-taken acc = record { tokens_are = refl; state_is = refl }

more-read : (b : ℕ) (bytes : List ℕ) → is_kept_in_value b ≡ true → ((b == 45) ≡ true → BeginsOtherwise bytes) → IsRead bytes → IsRead (b ∷ bytes)
more-read b bytes kept next h =
    let n = (neither (b == 13) (b == 0) kept).0 in
    let z = (neither (b == 13) (b == 0) kept).1 in
    let all = (b ∷ bytes) ++ close in
    let own = λ (acc : List ℕ). (elim (cases_Bool (b == 60)) as (λ _. Reads (comment acc) all (says (acc ++ (b ∷ bytes))) data_state) [
      | inl y ↦ rw (eqb-true b 60 y) (takes (comment acc) (comment_less_than_sign (acc ++ 60 ∷ [])) 60 bytes acc (less-taken acc) (h.less (acc ++ 60 ∷ [])))
      | inr l ↦ elim (cases_Bool (b == 45)) as (λ _. Reads (comment acc) all (says (acc ++ (b ∷ bytes))) data_state) [
        | inl y ↦
            let other = next y in
            rw (eqb-true b 45 y) (quietly (comment acc) (comment_end_dash acc) data_state (45 ∷ []) (bytes ++ close) (says (acc ++ (45 ∷ bytes))) (dash-taken acc) (h.dash acc other))
        | inr d ↦ takes (comment acc) (comment (acc ++ b ∷ [])) b bytes acc
            (one (comment acc) (comment (acc ++ b ∷ [])) b [] n (ap (λ x. settled 3 x b) (plain-step acc b l d z))) (h.in_comment (acc ++ b ∷ []))
      ]
    ]) in
    record {
      in_comment = own;
      less = λ acc. (elim (cases_Bool (b == 33)) as (λ _. Reads (comment_less_than_sign acc) all (says (acc ++ (b ∷ bytes))) data_state) [
        | inl y ↦ rw (eqb-true b 33 y) (takes (comment_less_than_sign acc) (comment_less_than_sign_bang (acc ++ 33 ∷ [])) 33 bytes acc (bang-taken acc) (h.bang (acc ++ 33 ∷ [])))
        | inr e ↦ elim (cases_Bool (b == 60)) as (λ _. Reads (comment_less_than_sign acc) all (says (acc ++ (b ∷ bytes))) data_state) [
          | inl y ↦ rw (eqb-true b 60 y) (takes (comment_less_than_sign acc) (comment_less_than_sign (acc ++ 60 ∷ [])) 60 bytes acc (less-again acc) (h.less (acc ++ 60 ∷ [])))
          | inr l ↦ alike (comment_less_than_sign acc) (comment acc) data_state b (bytes ++ close) (says (acc ++ (b ∷ bytes))) n
              (once (comment_less_than_sign acc) (comment acc) b (less-step acc b e l) (in-comment-once acc b)) (own acc)
        ]
      ]);
      bang = λ acc. (elim (cases_Bool (b == 45)) as (λ _. Reads (comment_less_than_sign_bang acc) all (says (acc ++ (b ∷ bytes))) data_state) [
        | inl y ↦
            let other = next y in
            rw (eqb-true b 45 y) (quietly (comment_less_than_sign_bang acc) (comment_less_than_sign_bang_dash acc) data_state (45 ∷ []) (bytes ++ close) (says (acc ++ (45 ∷ bytes))) (bang-dash-taken acc) (h.bang_dash acc other))
        | inr d ↦ alike (comment_less_than_sign_bang acc) (comment acc) data_state b (bytes ++ close) (says (acc ++ (b ∷ bytes))) n
            (once (comment_less_than_sign_bang acc) (comment acc) b (bang-step acc b d) (in-comment-once acc b)) (own acc)
      ]);
      dash = λ acc d. subst (λ x. Reads (comment_end_dash acc) all (says x) data_state) (append_assoc acc (codes "-") (b ∷ bytes))
          (alike (comment_end_dash acc) (comment (acc ++ codes "-")) data_state b (bytes ++ close) (says ((acc ++ codes "-") ++ (b ∷ bytes))) n
          (once (comment_end_dash acc) (comment (acc ++ codes "-")) b (dash-step acc b d) (in-comment-once (acc ++ codes "-") b)) (own (acc ++ codes "-")));
      bang_dash = λ acc d. subst (λ x. Reads (comment_less_than_sign_bang_dash acc) all (says x) data_state) (append_assoc acc (codes "-") (b ∷ bytes))
          (alike (comment_less_than_sign_bang_dash acc) (comment (acc ++ codes "-")) data_state b (bytes ++ close) (says ((acc ++ codes "-") ++ (b ∷ bytes))) n
          (twice (comment_less_than_sign_bang_dash acc) (comment_end_dash acc) (comment (acc ++ codes "-")) b (bang-dash-step acc b d) (dash-step acc b d) (in-comment-once (acc ++ codes "-") b)) (own (acc ++ codes "-")));
    }

other-byte : (a b : Bool) → not (a && b) ≡ true → a ≡ true → b ≡ false
other-byte true b h e = not-true b h
other-byte false b h e = cc

all-read : (bytes : List ℕ) → goes_on bytes ≡ true → IsRead bytes
all-read [] h = nothing-left
all-read (b ∷ []) h =
    let p = and_parts (is_kept_in_value b) (not (b == 45)) h in
    more-read b [] p.0 (λ y. true≢false (sym y ∙ not-true (b == 45) p.1)) nothing-left
all-read (b ∷ c ∷ bytes) h =
    let p = and_parts (is_kept_in_value b && not (b == 45 && c == 45)) (goes_on (c ∷ bytes)) h in
    let q = and_parts (is_kept_in_value b) (not (b == 45 && c == 45)) p.0 in
    more-read b (c ∷ bytes) q.0 (λ y. other-byte (b == 45) (c == 45) q.1 y) (all-read (c ∷ bytes) p.1)

-- From where a comment begins

begins : Reads data_state (codes "<!--") [] comment_start
unfolding read
begins = record { tokens_are = refl; state_is = refl }

empty : Reads comment_start close (says []) data_state
unfolding read
empty = record { tokens_are = refl; state_is = refl }

start_step : Bool → Bool → Step
start_step dash greater =
    if dash then to comment_start_dash
    else if greater then emitting_token (CommentToken []) data_state
    else again_in (comment [])

start-step : (b : ℕ) → (b == 45) ≡ false → (b == 62) ≡ false → step comment_start b ≡ again_in (comment [])
unfolding start_step
start-step b d g = ap (λ v. start_step v (b == 62)) d ∙ ap (λ v. start_step false v) g

start_dash_step : Bool → Bool → Step
start_dash_step dash greater =
    if dash then to (comment_end [])
    else if greater then emitting_token (CommentToken []) data_state
    else again_in (comment (codes "-"))

start-dash-step : (b : ℕ) → (b == 45) ≡ false → (b == 62) ≡ false → step comment_start_dash b ≡ again_in (comment (codes "-"))
unfolding start_dash_step
start-dash-step b d g = ap (λ v. start_dash_step v (b == 62)) d ∙ ap (λ v. start_dash_step false v) g

start-dash-taken : Reads comment_start (45 ∷ []) [] comment_start_dash
unfolding read
start-dash-taken = record { tokens_are = refl; state_is = refl }

first-kept : (b : ℕ) (bytes : List ℕ) → goes_on (b ∷ bytes) ≡ true → (b == 13) ≡ false
first-kept b [] h = (neither (b == 13) (b == 0) (and_parts (is_kept_in_value b) (not (b == 45)) h).0).0
first-kept b (c ∷ bytes) h = (neither (b == 13) (b == 0) (and_parts (is_kept_in_value b) (not (b == 45 && c == 45)) (and_parts (is_kept_in_value b && not (b == 45 && c == 45)) (goes_on (c ∷ bytes)) h).0).0).0

begun : (b : ℕ) (bytes : List ℕ) → (b == 45) ≡ false → (b == 62) ≡ false → goes_on (b ∷ bytes) ≡ true → Reads comment_start ((b ∷ bytes) ++ close) (says (b ∷ bytes)) data_state
begun b bytes d g h =
    let all = all-read (b ∷ bytes) h in
    alike comment_start (comment []) data_state b (bytes ++ close) (says (b ∷ bytes)) (first-kept b bytes h)
    (once comment_start (comment []) b (start-step b d g) (in-comment-once [] b)) (all.in_comment [])

begun-with-dash : (c : ℕ) (bytes : List ℕ) → (c == 45) ≡ false → (c == 62) ≡ false → goes_on (c ∷ bytes) ≡ true → Reads comment_start ((45 ∷ c ∷ bytes) ++ close) (says (45 ∷ c ∷ bytes)) data_state
begun-with-dash c bytes d g h =
    let all = all-read (c ∷ bytes) h in
    quietly comment_start comment_start_dash data_state (45 ∷ []) ((c ∷ bytes) ++ close) (says (45 ∷ c ∷ bytes)) start-dash-taken
    (alike comment_start_dash (comment (codes "-")) data_state c (bytes ++ close) (says (45 ∷ c ∷ bytes)) (first-kept c bytes h)
    (once comment_start_dash (comment (codes "-")) c (start-dash-step c d g) (in-comment-once (codes "-") c)) (all.in_comment (codes "-")))

inside-read : (bytes : List ℕ) → is_plain_comment bytes ≡ true → Reads comment_start (bytes ++ close) (says bytes) data_state
inside-read [] h = empty
inside-read (b ∷ []) h =
    let p = and_parts (not (b == 62)) (is_kept_in_value b && not (b == 45)) h in
    begun b [] (not-true (b == 45) (and_parts (is_kept_in_value b) (not (b == 45)) p.1).1) (not-true (b == 62) p.0) p.1
inside-read (b ∷ c ∷ bytes) h =
    let p = and_parts (not (b == 62 || (b == 45 && c == 62))) (goes_on (b ∷ c ∷ bytes)) h in
    let g = neither (b == 62) (b == 45 && c == 62) p.0 in
    let q = and_parts (is_kept_in_value b && not (b == 45 && c == 45)) (goes_on (c ∷ bytes)) p.1 in
    let r = and_parts (is_kept_in_value b) (not (b == 45 && c == 45)) q.0 in
    elim (cases_Bool (b == 45)) as (λ _. Reads comment_start ((b ∷ c ∷ bytes) ++ close) (says (b ∷ c ∷ bytes)) data_state) [
      | inl y ↦
          let d = other-byte (b == 45) (c == 45) r.1 y in
          let e = other-byte (b == 45) (c == 62) (ap not g.1) y in
          rw (eqb-true b 45 y) (begun-with-dash c bytes d e q.1)
      | inr d ↦ begun b (c ∷ bytes) d g.0 p.1
    ]

pub comment_read : (bytes : List ℕ) → is_plain_comment bytes ≡ true → IsReadAs data_state (serialized_comment bytes) (CommentToken bytes ∷ [])
comment_read bytes h =
    let all = quietly data_state comment_start data_state (codes "<!--") (bytes ++ close) (says bytes) begins (inside-read bytes h) in
    (all.tokens_are, all.state_is)
