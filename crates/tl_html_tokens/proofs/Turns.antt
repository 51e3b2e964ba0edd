-- What a byte does in a piece, as pieces are defined.
use Rattle.std.proofs.Common.{◌≡◌, ℕ, zero, suc, true, false, List, ◌++◌, Some, None, refl, ap, ap₂, sym, subst, ◌∙◌, inl, inr, append-nil, append_assoc}
use Rattle.std.specs.Prelude.{option_map}
use Rattle.std.proofs.lemmas.Bool.{cases_Bool}
use Rattle.tl_html_spec.specs.HtmlTokenizer.{HtmlToken, State, Step, settled, step}
use Rattle.tl_html_spec.specs.Reader.{emitting_before, is_at_rest, rest_within, resting}
use Rattle.tl_html_spec.proofs.Resting.{settled_at_once}
use Rattle.tl_html_tokens.specs.Kinds.{IsKind}
use Rattle.tl_html_tokens.specs.Modes.{state_of}
use Rattle.tl_html_tokens.specs.declared.mode.Mode.{Mode}
use Rattle.tl_html_tokens.specs.declared.stage.TokenKind.{TokenKind}
use Rattle.tl_html_tokens.specs.declared.stage.Stage.{Stage}
use Rattle.tl_html_tokens.specs.declared.stage.Turn.{Turn}
use Rattle.tl_html_tokens.specs.declared.stage.Turn.TheVariants.{Goes, Ends}
use Rattle.tl_html_tokens.proofs.Steps.{IsStage, Met, next_word, rests}

module _ (b : ℕ) (w : List ℕ) where
  -- after at most so many reconsumes the piece goes on with this stage, or the machine is at rest before the byte
  abbrev pub Turned : ℕ → List HtmlToken → State → Turn → Type 0
  Turned n ts s (Goes c) = (rest_within n s b ≡ None) × IsStage (next_word c w b) c (settled (suc n) (step s b) b).next (ts ++ (settled (suc n) (step s b) b).emits)
  Turned n ts s (Ends k m) = (es : List HtmlToken) × (rest_within n s b ≡ Some (record { state = state_of m; emits = es })) × IsKind k (ts ++ es)

  pub rest_none : (n : ℕ) (s : State) → is_at_rest s ≡ false → (step s b).again ≡ false → rest_within n s b ≡ None
  rest_none zero s f g = rw f refl
  rest_none (suc n) s f g = rw (f, g) refl

  rest_zero : (s : State) → is_at_rest s ≡ false → rest_within zero s b ≡ None
  rest_zero s f = rw f refl

  rest_again : (n : ℕ) (s : State) → is_at_rest s ≡ false → (step s b).again ≡ true →
      rest_within (suc n) s b ≡ option_map (emitting_before (step s b).emits) (rest_within n (step s b).next b)
  rest_again n s f g = rw (f, g) refl

  pub rest_here : (n : ℕ) (s : State) → is_at_rest s ≡ true → rest_within n s b ≡ Some (resting s)
  rest_here zero s f = rw f refl
  rest_here (suc n) s f = rw f refl

  settled_again : (n : ℕ) (x : Step) → x.again ≡ true → settled (suc n) x b ≡ (record (settled n (step x.next b) b) { emits = x.emits ++ (settled n (step x.next b) b).emits })
  settled_again n x h = rw h refl

  at_once : (n : ℕ) (ts : List HtmlToken) (s : State) (c : Stage) → is_at_rest s ≡ false → (step s b).again ≡ false →
      IsStage (next_word c w b) c (step s b).next (ts ++ (step s b).emits) → Turned n ts s (Goes c)
  at_once n ts s c f g h =
      (rest_none n s f g, subst (λ (x : Step). IsStage (next_word c w b) c x.next (ts ++ x.emits)) (sym (settled_at_once (suc n) (step s b) b g)) h)

  later : (n : ℕ) (ts : List HtmlToken) (s : State) (o : Turn) → is_at_rest s ≡ false → (step s b).again ≡ true →
      Turned n (ts ++ (step s b).emits) (step s b).next o → Turned (suc n) ts s o
  later n ts s (Goes c) f g (e, h) =
      let es : List HtmlToken = (step s b).emits in
      let more : Step = settled (suc n) (step (step s b).next b) b in (
        rest_again n s f g ∙ ap (option_map (emitting_before es)) e,
        subst (λ (x : Step). IsStage (next_word c w b) c x.next (ts ++ x.emits)) (sym (settled_again (suc n) (step s b) g))
            (subst (λ us. IsStage (next_word c w b) c more.next us) (append_assoc ts es more.emits) h),
      )
  later n ts s (Ends k m) f g (us, e, h) =
      let es : List HtmlToken = (step s b).emits in
      (es ++ us, rest_again n s f g ∙ ap (option_map (emitting_before es)) e, subst (IsKind k) (append_assoc ts es us) h)

  stops : (n : ℕ) (ts : List HtmlToken) (s : State) (k : TokenKind) (m : Mode) → is_at_rest s ≡ false → (step s b).again ≡ true →
      (step s b).next ≡ state_of m → IsKind k (ts ++ (step s b).emits) → Turned (suc n) ts s (Ends k m)
  stops n ts s k m f g e h =
      let es : List HtmlToken = (step s b).emits in
      let r : is_at_rest (step s b).next ≡ true = ap is_at_rest e ∙ rests m in (
        es,
        rest_again n s f g ∙ ap (option_map (emitting_before es)) (rest_here n (step s b).next r)
            ∙ ap₂ (λ (x : State) us. Some (record { state = x; emits = us })) e (append-nil es),
        h,
      )

  pub turned : (n : ℕ) (ts : List HtmlToken) (s : State) (o : Turn) → is_at_rest s ≡ false → Met b w n ts (step s b) o → Turned n ts s o
  turned zero ts s (Goes c) f h = at_once zero ts s c f h.0 h.1
  turned zero ts s (Ends k m) f h = absurd h.1
  turned (suc n) ts s (Goes c) f h = elim (cases_Bool (step s b).again) [
    | inr g ↦ (let here : IsStage (next_word c w b) c (step s b).next (ts ++ (step s b).emits) = rw (g, Met) at h in at_once (suc n) ts s c f g here)
    | inl g ↦ elim (cases_Bool (is_at_rest (step s b).next)) [
      | inl r ↦ (let never : ⊥ = rw (g, r, Met) at h in absurd never)
      | inr r ↦ (let more : Met b w n (ts ++ (step s b).emits) (step (step s b).next b) (Goes c) = rw (g, r, Met) at h in
          later n ts s (Goes c) f g (turned n (ts ++ (step s b).emits) (step s b).next (Goes c) r more))
    ]
  ]
  turned (suc n) ts s (Ends k m) f h = elim (cases_Bool (step s b).again) [
    | inr g ↦ (let never : ⊥ = rw (g, Met) at h in absurd never)
    | inl g ↦ elim (cases_Bool (is_at_rest (step s b).next)) [
      | inl r ↦ (let here : ((step s b).next ≡ state_of m) × IsKind k (ts ++ (step s b).emits) = rw (g, r, Met) at h in stops n ts s k m f g here.0 here.1)
      | inr r ↦ (let more : Met b w n (ts ++ (step s b).emits) (step (step s b).next b) (Ends k m) = rw (g, r, Met) at h in
          later n ts s (Ends k m) f g (turned n (ts ++ (step s b).emits) (step s b).next (Ends k m) r more))
    ]
  ]
