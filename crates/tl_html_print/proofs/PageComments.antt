-- Each comment that the tokenizer emits is read again as it is written.
use Rattle.std.proofs.Common.{Bool, List, [], ap, append-nil, append_assoc, codes, false, if◌then◌else◌, inl, inr, not, refl, subst, sym, true, true≢false, ℕ, ◌++◌, ◌==◌, ◌||◌, ◌∙◌, ◌≡◌, ◌∷◌}
use Rattle.std.specs.Prelude.{⊤}
use Rattle.std.specs.List.{list_all}
use Rattle.std.proofs.lemmas.Bool.{and_parts, cases_Bool, eqb-true}
use Rattle.tl_html_print.proofs.Reread.{Reads, neither, neither-two, one, quietly}
use Rattle.tl_html_print.proofs.RereadComments.{bang-dash-step, bang-step, dash-step, in-comment-once, less-step, once, plain-step, says, twice}
use Rattle.tl_html_print.specs.ReadAgain.{IsReadAs}
use Rattle.tl_html_print.specs.Serialized.{serialized_comment}
use Rattle.tl_html_spec.specs.HtmlTokenizer.{CommentToken, State, Step, again_in, char_of, comment, comment_end, comment_end_bang, comment_end_dash, comment_less_than_sign, comment_less_than_sign_bang, comment_less_than_sign_bang_dash, comment_less_than_sign_bang_dash_dash, comment_start, comment_start_dash, data_state, emitting_token, replacement, settled, step, to, whole_step}
use Rattle.tl_html_spec.specs.Reader.{at, read}

abbrev pub is_inside : State → Bool
is_inside comment_start = true
is_inside comment_start_dash = true
is_inside (comment x) = true
is_inside (comment_less_than_sign x) = true
is_inside (comment_less_than_sign_bang x) = true
is_inside (comment_less_than_sign_bang_dash x) = true
is_inside (comment_less_than_sign_bang_dash_dash x) = true
is_inside (comment_end_dash x) = true
is_inside (comment_end x) = true
is_inside (comment_end_bang x) = true
is_inside _ = false

-- what was read of the comment
abbrev pub inside : State → List ℕ
inside comment_start_dash = codes "-"
inside (comment x) = x
inside (comment_less_than_sign x) = x
inside (comment_less_than_sign_bang x) = x
inside (comment_less_than_sign_bang_dash x) = x ++ codes "-"
inside (comment_less_than_sign_bang_dash_dash x) = x ++ codes "--"
inside (comment_end_dash x) = x ++ codes "-"
inside (comment_end x) = x ++ codes "--"
inside (comment_end_bang x) = x ++ codes "--!"
inside _ = []

-- a comment that is read again
abbrev pub IsWritten : List ℕ → Type 0
IsWritten x = IsReadAs data_state (serialized_comment x) (CommentToken x ∷ [])

-- a comment without the dashes at its end, which may end it
abbrev pub MayEnd : State → Type 0
MayEnd (comment_less_than_sign_bang_dash x) = IsWritten x
MayEnd (comment_less_than_sign_bang_dash_dash x) = IsWritten x
MayEnd (comment_end_dash x) = IsWritten x
MayEnd (comment_end x) = IsWritten x
MayEnd (comment_end_bang x) = IsWritten x
MayEnd _ = ⊤

-- a comment of these bytes comes to such a state
pub record Comes (s : State) (x : List ℕ) : Type 0 where
  pub within : is_inside s ≡ true
  pub is : inside s ≡ x
  pub reads : Reads comment_start x [] s
  pub ends : MayEnd s

-- what stands before `-->`
closes : (s : State) → is_inside s ≡ true → Reads s (codes "-->") (says (inside s)) data_state
unfolding read
closes comment_start h = record { tokens_are = refl; state_is = refl }
closes comment_start_dash h = record { tokens_are = refl; state_is = refl }
closes (comment x) h = record { tokens_are = refl; state_is = refl }
closes (comment_less_than_sign x) h = record { tokens_are = refl; state_is = refl }
closes (comment_less_than_sign_bang x) h = record { tokens_are = refl; state_is = refl }
closes (comment_less_than_sign_bang_dash x) h = record { tokens_are = refl; state_is = refl }
closes (comment_less_than_sign_bang_dash_dash x) h = record { tokens_are = ap says (append_assoc x (codes "-") (codes "-")); state_is = refl }
closes (comment_end_dash x) h = record { tokens_are = refl; state_is = refl }
closes (comment_end x) h = record { tokens_are = ap says (append_assoc x (codes "-") (codes "-")); state_is = refl }
closes (comment_end_bang x) h = record { tokens_are = refl; state_is = refl }
closes _ h = absurd (true≢false (sym h))

begins : Reads data_state (codes "<!--") [] comment_start
unfolding read
begins = record { tokens_are = refl; state_is = refl }

written : (x : List ℕ) → Reads comment_start (x ++ codes "-->") (says x) data_state → IsWritten x
written x h =
    let all = quietly data_state comment_start data_state (codes "<!--") (x ++ codes "-->") (says x) begins h in
    (all.tokens_are, all.state_is)

pub comes_written : (s : State) (x : List ℕ) → Comes s x → IsWritten x
comes_written s x h =
    written x
    (quietly comment_start s data_state x (codes "-->") (says x) h.reads
    (subst (λ y. Reads s (codes "-->") (says y) data_state) h.is (closes s h.within)))

-- one `-` less
less_one : (s : State) (x : List ℕ) → Reads comment_start (x ++ codes "--") [] s → Reads s (codes "->") (says (x ++ codes "-")) data_state → IsWritten (x ++ codes "-")
less_one s x h k =
    written (x ++ codes "-")
    (subst (λ y. Reads comment_start y (says (x ++ codes "-")) data_state) (append_assoc x (codes "--") (codes "->") ∙ sym (append_assoc x (codes "-") (codes "-->")))
    (quietly comment_start s data_state (x ++ codes "--") (codes "->") (says (x ++ codes "-")) h k))

end-less : (x : List ℕ) → Reads (comment_end x) (codes "->") (says (x ++ codes "-")) data_state
unfolding read
end-less x = record { tokens_are = refl; state_is = refl }

bang-less : (x : List ℕ) → Reads (comment_less_than_sign_bang_dash_dash x) (codes "->") (says (x ++ codes "-")) data_state
unfolding read
bang-less x = record { tokens_are = refl; state_is = refl }

-- a byte that doesn't end it
goes : (s t : State) (x : List ℕ) (b : ℕ) → (b == 13) ≡ false → Comes s x → whole_step s b ≡ to t → is_inside t ≡ true → inside t ≡ inside s ++ b ∷ [] → MayEnd t → Comes t (x ++ b ∷ [])
goes s t x b n h e within is ends = record {
  within = within;
  is = is ∙ ap (λ y. y ++ b ∷ []) h.is;
  reads = quietly comment_start s t x (b ∷ []) [] h.reads (one s t b [] n e);
  ends = ends;
}

-- where a byte leads to
pub record Leads (s : State) (x : List ℕ) (b : ℕ) : Type 0 where
  pub next : State
  pub step_is : whole_step s b ≡ to next
  pub comes : Comes next (x ++ char_of b)

leads : (s t : State) (x : List ℕ) (b : ℕ) → (b == 13) ≡ false → (b == 0) ≡ false → Comes s x → whole_step s b ≡ to t → is_inside t ≡ true → inside t ≡ inside s ++ b ∷ [] → MayEnd t → Leads s x b
leads s t x b n z h e within is ends = record {
  next = t;
  step_is = e;
  comes = subst (λ (y : List ℕ). Comes t (x ++ y)) (sym (ap (λ v. if v then replacement else b ∷ []) z)) (goes s t x b n h e within is ends);
}

own_written : (s : State) (x : List ℕ) → Comes s x → IsWritten (inside s)
own_written s x h = subst IsWritten (sym h.is) (comes_written s x h)

reads_own : (s : State) (x : List ℕ) → Comes s x → Reads comment_start (inside s) [] s
reads_own s x h = subst (λ y. Reads comment_start y [] s) (sym h.is) h.reads

two_dashes : (w : List ℕ) → (w ++ codes "-") ++ codes "-" ≡ w ++ codes "--"
two_dashes w = append_assoc w (codes "-") (codes "-")

three_dashes : (w : List ℕ) → (w ++ codes "-") ++ codes "--" ≡ (w ++ codes "--") ++ codes "-"
three_dashes w = append_assoc w (codes "-") (codes "--") ∙ sym (append_assoc w (codes "--") (codes "-"))

dash : (s : State) (x : List ℕ) → Comes s x → Leads s x 45
unfolding read
dash comment_start x h = leads comment_start comment_start_dash x 45 refl refl h refl refl refl tt
dash comment_start_dash x h = leads comment_start_dash (comment_end []) x 45 refl refl h refl refl refl (refl, refl)
dash (comment w) x h = leads (comment w) (comment_end_dash w) x 45 refl refl h refl refl refl (own_written (comment w) x h)
dash (comment_less_than_sign w) x h =
    leads (comment_less_than_sign w) (comment_end_dash w) x 45 refl refl h refl refl refl (own_written (comment_less_than_sign w) x h)
dash (comment_less_than_sign_bang w) x h =
    leads (comment_less_than_sign_bang w) (comment_less_than_sign_bang_dash w) x 45 refl refl h refl refl refl (own_written (comment_less_than_sign_bang w) x h)
dash (comment_less_than_sign_bang_dash w) x h =
    leads (comment_less_than_sign_bang_dash w) (comment_less_than_sign_bang_dash_dash w) x 45 refl refl h refl refl (sym (two_dashes w)) h.ends
dash (comment_less_than_sign_bang_dash_dash w) x h =
    let s = comment_less_than_sign_bang_dash_dash w in
    leads s (comment_end (w ++ codes "-")) x 45 refl refl h refl refl (three_dashes w) (less_one s w (reads_own s x h) (bang-less w))
dash (comment_end_dash w) x h = leads (comment_end_dash w) (comment_end w) x 45 refl refl h refl refl (sym (two_dashes w)) h.ends
dash (comment_end w) x h =
    leads (comment_end w) (comment_end (w ++ codes "-")) x 45 refl refl h refl refl (three_dashes w) (less_one (comment_end w) w (reads_own (comment_end w) x h) (end-less w))
dash (comment_end_bang w) x h =
    leads (comment_end_bang w) (comment_end_dash (w ++ codes "--!")) x 45 refl refl h refl refl refl (own_written (comment_end_bang w) x h)
dash _ x h = absurd (true≢false (sym h.within))

less_is : (s : State) → is_inside s ≡ true → whole_step s 60 ≡ to (comment_less_than_sign (inside s ++ 60 ∷ []))
less_is comment_start h = refl
less_is comment_start_dash h = refl
less_is (comment w) h = refl
less_is (comment_less_than_sign w) h = refl
less_is (comment_less_than_sign_bang w) h = refl
less_is (comment_less_than_sign_bang_dash w) h = refl
less_is (comment_less_than_sign_bang_dash_dash w) h = refl
less_is (comment_end_dash w) h = refl
less_is (comment_end w) h = refl
less_is (comment_end_bang w) h = refl
less_is _ h = absurd (true≢false (sym h))

less : (s : State) (x : List ℕ) → Comes s x → Leads s x 60
less s x h = leads s (comment_less_than_sign (inside s ++ 60 ∷ [])) x 60 refl refl h (less_is s h.within) refl refl tt

-- to the comment state
plainly : (s : State) (x : List ℕ) (b : ℕ) → (b == 13) ≡ false → (b == 0) ≡ false → Comes s x → whole_step s b ≡ to (comment (inside s ++ b ∷ [])) → Leads s x b
plainly s x b n z h e = leads s (comment (inside s ++ b ∷ [])) x b n z h e refl refl tt

bang_in : (w : List ℕ) → (w ++ codes "--") ++ codes "!" ≡ w ++ codes "--!"
bang_in w = append_assoc w (codes "--") (codes "!")

exclamation : (s : State) (x : List ℕ) → Comes s x → Leads s x 33
exclamation comment_start x h = plainly comment_start x 33 refl refl h refl
exclamation comment_start_dash x h = plainly comment_start_dash x 33 refl refl h refl
exclamation (comment w) x h = plainly (comment w) x 33 refl refl h refl
exclamation (comment_less_than_sign w) x h =
    leads (comment_less_than_sign w) (comment_less_than_sign_bang (w ++ 33 ∷ [])) x 33 refl refl h refl refl refl tt
exclamation (comment_less_than_sign_bang w) x h = plainly (comment_less_than_sign_bang w) x 33 refl refl h refl
exclamation (comment_less_than_sign_bang_dash w) x h = plainly (comment_less_than_sign_bang_dash w) x 33 refl refl h refl
exclamation (comment_less_than_sign_bang_dash_dash w) x h =
    leads (comment_less_than_sign_bang_dash_dash w) (comment_end_bang w) x 33 refl refl h refl refl (sym (bang_in w)) h.ends
exclamation (comment_end_dash w) x h = plainly (comment_end_dash w) x 33 refl refl h refl
exclamation (comment_end w) x h = leads (comment_end w) (comment_end_bang w) x 33 refl refl h refl refl (sym (bang_in w)) h.ends
exclamation (comment_end_bang w) x h = plainly (comment_end_bang w) x 33 refl refl h refl
exclamation _ x h = absurd (true≢false (sym h.within))

-- a NUL is replaced

null_is : (s : State) → is_inside s ≡ true → whole_step s 0 ≡ to (comment (inside s ++ replacement))
null_is comment_start h = refl
null_is comment_start_dash h = refl
null_is (comment w) h = refl
null_is (comment_less_than_sign w) h = refl
null_is (comment_less_than_sign_bang w) h = refl
null_is (comment_less_than_sign_bang_dash w) h = refl
null_is (comment_less_than_sign_bang_dash_dash w) h = refl
null_is (comment_end_dash w) h = refl
null_is (comment_end w) h = refl
null_is (comment_end_bang w) h = refl
null_is _ h = absurd (true≢false (sym h))

plain_is : (w : List ℕ) (b : ℕ) → (b == 60) ≡ false → (b == 45) ≡ false → (b == 0) ≡ false → whole_step (comment w) b ≡ to (comment (w ++ b ∷ []))
plain_is w b l d z = ap (λ x. settled 3 x b) (plain-step w b l d z)

-- a byte that is read once more as one of the comment
from_once : (s : State) (w : List ℕ) (b : ℕ) → step s b ≡ again_in (comment w) → (b == 60) ≡ false → (b == 45) ≡ false → (b == 0) ≡ false → whole_step s b ≡ to (comment (w ++ b ∷ []))
from_once s w b e l d z = once s (comment w) b e (in-comment-once w b) ∙ plain_is w b l d z

from_twice : (s t : State) (w : List ℕ) (b : ℕ) → step s b ≡ again_in t → step t b ≡ again_in (comment w) → (b == 60) ≡ false → (b == 45) ≡ false → (b == 0) ≡ false → whole_step s b ≡ to (comment (w ++ b ∷ []))
from_twice s t w b e k l d z = twice s t (comment w) b e k (in-comment-once w b) ∙ plain_is w b l d z

end_step : List ℕ → Bool → Bool → Bool → Step
end_step w greater exclamation dash =
    if greater then emitting_token (CommentToken w) data_state
    else if exclamation then to (comment_end_bang w)
    else if dash then to (comment_end (w ++ codes "-"))
    else again_in (comment (w ++ codes "--"))

end-step : (w : List ℕ) (b : ℕ) → (b == 62) ≡ false → (b == 33) ≡ false → (b == 45) ≡ false → step (comment_end w) b ≡ again_in (comment (w ++ codes "--"))
unfolding end_step
end-step w b g e d =
    ap (λ v. end_step w v (b == 33) (b == 45)) g
    ∙ ap (λ v. end_step w false v (b == 45)) e
    ∙ ap (λ v. end_step w false false v) d

-- two tests that fail
past : (v u : Bool) (x y z : Step) → v ≡ false → u ≡ false → (if v then x else if u then y else z) ≡ z
past true u x y z h k = cc
past false true x y z h k = cc
past false false x y z h k = refl

other_is : (s : State) (b : ℕ) → is_inside s ≡ true → (b == 0) ≡ false → (b == 33) ≡ false → (b == 45) ≡ false → (b == 60) ≡ false → (b == 62) ≡ false → whole_step s b ≡ to (comment (inside s ++ b ∷ []))
other_is comment_start b h z e d l g = from_once comment_start [] b (past (b == 45) (b == 62) _ _ _ d g) l d z
other_is comment_start_dash b h z e d l g = from_once comment_start_dash (codes "-") b (past (b == 45) (b == 62) _ _ _ d g) l d z
other_is (comment w) b h z e d l g = plain_is w b l d z
other_is (comment_less_than_sign w) b h z e d l g = from_once (comment_less_than_sign w) w b (less-step w b e l) l d z
other_is (comment_less_than_sign_bang w) b h z e d l g = from_once (comment_less_than_sign_bang w) w b (bang-step w b d) l d z
other_is (comment_less_than_sign_bang_dash w) b h z e d l g =
    from_twice (comment_less_than_sign_bang_dash w) (comment_end_dash w) (w ++ codes "-") b (bang-dash-step w b d) (dash-step w b d) l d z
other_is (comment_less_than_sign_bang_dash_dash w) b h z e d l g =
    from_twice (comment_less_than_sign_bang_dash_dash w) (comment_end w) (w ++ codes "--") b refl (end-step w b g e d) l d z
other_is (comment_end_dash w) b h z e d l g = from_once (comment_end_dash w) (w ++ codes "-") b (dash-step w b d) l d z
other_is (comment_end w) b h z e d l g = from_once (comment_end w) (w ++ codes "--") b (end-step w b g e d) l d z
other_is (comment_end_bang w) b h z e d l g = from_once (comment_end_bang w) (w ++ codes "--!") b (past (b == 45) (b == 62) _ _ _ d g) l d z
other_is _ b h z e d l g = absurd (true≢false (sym h))

another : (s : State) (x : List ℕ) (b : ℕ) → (b == 13) ≡ false → (b == 0) ≡ false → (b == 33) ≡ false → (b == 45) ≡ false → (b == 60) ≡ false → (b == 62) ≡ false → Comes s x → Leads s x b
another s x b n z e d l g h = plainly s x b n z h (other_is s b h.within z e d l g)

after_first : (w : List ℕ) → Reads (comment (w ++ 239 ∷ [])) (191 ∷ 189 ∷ []) [] (comment (w ++ replacement))
unfolding read
after_first w = record {
  tokens_are = refl;
  state_is = ap (λ y. at (comment y)) (append_assoc (w ++ 239 ∷ []) (191 ∷ []) (189 ∷ []) ∙ append_assoc w (239 ∷ []) (191 ∷ 189 ∷ []));
}

three_read : (s : State) → is_inside s ≡ true → Reads s replacement [] (comment (inside s ++ replacement))
three_read s h =
    quietly s (comment (inside s ++ 239 ∷ [])) (comment (inside s ++ replacement)) (239 ∷ []) (191 ∷ 189 ∷ []) []
    (one s (comment (inside s ++ 239 ∷ [])) 239 [] refl (other_is s 239 h refl refl refl refl refl))
    (after_first (inside s))

null : (s : State) (x : List ℕ) → Comes s x → Leads s x 0
null s x h = record {
  next = comment (inside s ++ replacement);
  step_is = null_is s h.within;
  comes = record {
    within = refl;
    is = ap (λ y. y ++ replacement) h.is;
    reads = quietly comment_start s (comment (inside s ++ replacement)) x replacement [] h.reads (three_read s h.within);
    ends = tt;
  };
}

-- each byte but `>`
pub any_leads : (s : State) (x : List ℕ) (b : ℕ) → (b == 13) ≡ false → (b == 62) ≡ false → Comes s x → Leads s x b
any_leads s x b n g h = elim (cases_Bool (b == 0)) [
  | inl y ↦ subst (Leads s x) (sym (eqb-true b 0 y)) (null s x h)
  | inr z ↦ elim (cases_Bool (b == 33)) [
    | inl y ↦ subst (Leads s x) (sym (eqb-true b 33 y)) (exclamation s x h)
    | inr e ↦ elim (cases_Bool (b == 45)) [
      | inl y ↦ subst (Leads s x) (sym (eqb-true b 45 y)) (dash s x h)
      | inr d ↦ elim (cases_Bool (b == 60)) [
        | inl y ↦ subst (Leads s x) (sym (eqb-true b 60 y)) (less s x h)
        | inr l ↦ another s x b n z e d l g h
      ]
    ]
  ]
]

-- a `>` ends it, or leads on
pub data Ends (s : State) (x : List ℕ) : Type 0 where
  ended : (y : List ℕ) → whole_step s 62 ≡ emitting_token (CommentToken y) data_state → IsWritten y → Ends s x
  led : Leads s x 62 → Ends s x

pub greater : (s : State) (x : List ℕ) → Comes s x → Ends s x
unfolding read
greater comment_start x h = ended [] refl (refl, refl)
greater comment_start_dash x h = ended [] refl (refl, refl)
greater (comment w) x h = led (plainly (comment w) x 62 refl refl h refl)
greater (comment_less_than_sign w) x h = led (plainly (comment_less_than_sign w) x 62 refl refl h refl)
greater (comment_less_than_sign_bang w) x h = led (plainly (comment_less_than_sign_bang w) x 62 refl refl h refl)
greater (comment_less_than_sign_bang_dash w) x h = led (plainly (comment_less_than_sign_bang_dash w) x 62 refl refl h refl)
greater (comment_less_than_sign_bang_dash_dash w) x h = ended w refl h.ends
greater (comment_end_dash w) x h = led (plainly (comment_end_dash w) x 62 refl refl h refl)
greater (comment_end w) x h = ended w refl h.ends
greater (comment_end_bang w) x h = ended w refl h.ends
greater _ x h = absurd (true≢false (sym h.within))

pub nothing_comes : Comes comment_start []
nothing_comes = record { within = refl; is = refl; reads = record { tokens_are = refl; state_is = refl }; ends = tt }

-- Bogus comments

pub record IsOpen (x : List ℕ) : Type 0 where
  pub state : State
  pub comes : Comes state x

pub nothing_open : IsOpen []
nothing_open = record { state = comment_start; comes = nothing_comes }

pub open_next : (x : List ℕ) (b : ℕ) → (b == 13) ≡ false → (b == 62) ≡ false → IsOpen x → IsOpen (x ++ char_of b)
open_next x b n g h = let l = any_leads h.state x b n g h.comes in record { state = l.next; comes = l.comes }

pub open_written : (x : List ℕ) → IsOpen x → IsWritten x
open_written x h = comes_written h.state x h.comes

abbrev pub is_bogus : ℕ → Bool
is_bogus b = not (b == 62 || (b == 13 || b == 0))

pub open_all : (x w : List ℕ) → IsOpen x → list_all is_bogus w ≡ true → IsOpen (x ++ w)
open_all x [] h k = subst IsOpen (sym (append-nil x)) h
open_all x (b ∷ w) h k =
    let p = and_parts (is_bogus b) (list_all is_bogus w) k in
    let q = neither (b == 62) (b == 13 || b == 0) p.0 in
    let r = neither-two (b == 13) (b == 0) q.1 in
    let next = subst (λ (y : List ℕ). IsOpen (x ++ y)) (ap (λ v. if v then replacement else b ∷ []) r.1) (open_next x b r.0 q.0 h) in
    subst IsOpen (append_assoc x (b ∷ []) w) (open_all (x ++ b ∷ []) w next p.1)
