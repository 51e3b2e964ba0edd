-- What a byte does in a comment.
use Rattle.std.proofs.Common.{◌≡◌, ℕ, suc, Bool, true, false, not, ◌&&◌, ◌||◌, ◌==◌, List, [], ◌∷◌, ◌++◌, map, codes, inl, inr, refl, ap, ap₂, sym, subst, ◌∙◌, true≢false, append-nil, append_assoc, arith, if◌then◌else◌}
use Rattle.std.specs.Prelude.{take_while}
use Rattle.std.specs.Char.{to_ascii_lowercase}
use Rattle.std.specs.List.{list_all, list_any, starts_with}
use Rattle.std.specs.Str.{bytes_eq}
use Rattle.std.proofs.lemmas.Bool.{and_parts, cases_Bool, cond_both, eqb-true}
use Rattle.std.proofs.lemmas.Grind.{flat_map-append}
use Rattle.std.proofs.lemmas.Slice.Eq.{bytes_eq-Decides}
use Rattle.std.proofs.lemmas.List.Folds.{list_all-append}
use Rattle.std.proofs.lemmas.List.Sums.{take_while-cons}
use Rattle.tl_html_spec.specs.HtmlTokenizer as T
use Rattle.tl_html_spec.specs.HtmlTokenizer.{HtmlToken, CommentToken, State, char_of, step}
use Rattle.tl_html_spec.specs.Reader.{is_at_rest}
use Rattle.tl_html_tokens.specs.Characters.{without_nul}
use Rattle.tl_html_tokens.specs.Comments.{data_of, inside, not_greater}
use Rattle.tl_html_tokens.specs.Inner.Machine as M
use Rattle.tl_html_tokens.specs.declared.mode.Mode.{Mode}
use Rattle.tl_html_tokens.specs.declared.mode.Mode.TheVariants as mode
use Rattle.tl_html_tokens.specs.declared.stage.TokenKind.{TokenKind}
use Rattle.tl_html_tokens.specs.declared.stage.TokenKind.TheVariants as kind
use Rattle.tl_html_tokens.specs.declared.stage.Stage.{Stage}
use Rattle.tl_html_tokens.specs.declared.stage.Stage.TheVariants as stage
use Rattle.tl_html_tokens.specs.declared.stage.Turn.{Turn}
use Rattle.tl_html_tokens.specs.declared.stage.Turn.TheVariants.{Goes}
use Rattle.tl_html_tokens.proofs.Content.{BeginsLess, Content, IsNoOpener, Kept, Passes, begins_more, is_clean, kept_by, opener}
use Rattle.tl_html_tokens.proofs.Endings.{IsDashed, IsOpen, bang_dashed, bang_open, dashed_open, dashes_open, inside_arrow, inside_bang_arrow, open_dashed, open_first, open_more, open_second}
use Rattle.tl_html_tokens.proofs.Steps.{IsStage, in_no_word, lower_feed, lower_more, never_begins, never_eq, next_word}
use Rattle.tl_html_tokens.proofs.TextStages.{bogus_more}
use Rattle.tl_html_tokens.proofs.Turning as G

abbrev pub is_comment : Stage → Bool
is_comment stage.BogusComment = true
is_comment stage.Declaration = true
is_comment stage.CommentStart = true
is_comment stage.CommentStartDash = true
is_comment stage.Comment = true
is_comment stage.CommentLessThan = true
is_comment stage.CommentBang = true
is_comment stage.CommentBangDash = true
is_comment stage.CommentBangDashDash = true
is_comment stage.CommentEndDash = true
is_comment stage.CommentEnd = true
is_comment stage.CommentEndBang = true
is_comment _ = false

module _ (m : Mode) (b : ℕ) (z w : List ℕ) where
  abbrev P : Stage → State → List HtmlToken → Type 0
  P c s ts = Content m c (z ++ b ∷ []) (next_word c w b) s ts

  abbrev K : TokenKind → Mode → List HtmlToken → Type 0
  K k n ts = Passes m k n z ts

  abbrev Met : ℕ → T.Step → Turn → Type 0
  Met n x o = G.Met b P K n [] x o

  pick : (n : ℕ) (v : Bool) (x y : T.Step) (o p : Turn) → (v ≡ true → Met n x o) → (v ≡ false → Met n y p) → Met n (if v then x else y) (if v then o else p)
  pick n v x y o p f g = G.pick b P K n [] v x y o p f g

  to : (n : ℕ) (s : State) (c : Stage) → P c s [] → Met n (T.to s) (Goes c)
  to n s c h = G.to b P K n s c h

  -- where a comment ends
  ended : (n : ℕ) (read : List ℕ) → BeginsLess z → read ≡ data_of (z ++ b ∷ []) → Met n (T.emitting_token (CommentToken read) T.data_state) M.comment_token
  ended n read g e =
      G.stay b P K n [] (CommentToken read ∷ []) T.data_state (stage.Whole kind.Comment mode.Data)
      ((ap (λ d. CommentToken d ∷ []) e, begins_more z (b ∷ []) g), λ y. absurd (true≢false (sym y)))

  -- bytes of a comment

  nul_more : (front : List ℕ) → without_nul (front ++ b ∷ []) ≡ without_nul front ++ char_of b
  nul_more front = flat_map-append char_of front (b ∷ []) ∙ ap (λ x. without_nul front ++ x) (append-nil (char_of b))

  nul_append : (front v : List ℕ) → without_nul (front ++ v) ≡ without_nul front ++ without_nul v
  nul_append front v = flat_map-append char_of front v

  of_byte : (c : ℕ) → (b == c) ≡ true → (c == 0) ≡ false → char_of b ≡ b ∷ []
  of_byte c y e = let k : (b == 0) ≡ false = ap (λ d. d == 0) (eqb-true b c y) ∙ e in rw k refl

  more : (front : List ℕ) → z ≡ opener ++ front → z ++ b ∷ [] ≡ opener ++ (front ++ b ∷ [])
  more front e = ap (λ x. x ++ b ∷ []) e

  -- with a byte that is known
  more_byte : (front v : List ℕ) (c : ℕ) → z ≡ opener ++ (front ++ v) → (b == c) ≡ true → z ++ b ∷ [] ≡ opener ++ (front ++ (v ++ c ∷ []))
  more_byte front v c e y = more (front ++ v) e ∙ ap (λ x. opener ++ x) (append_assoc front v (b ∷ []) ∙ ap (λ d. front ++ (v ++ d ∷ [])) (eqb-true b c y))

  begins : (front : List ℕ) → z ≡ opener ++ front → BeginsLess z
  begins front e = subst BeginsLess (sym e) refl

  in_comment : (n : ℕ) (front read : List ℕ) → z ≡ opener ++ front → read ≡ without_nul front → ((b == 45) ≡ false → IsOpen (front ++ b ∷ [])) → ((b == 45) ≡ true → IsDashed front) →
      Met n (step (T.comment read) b) (M.comment b)
  in_comment n front read e r opens dashes =
      pick n (b == 60) _ _ _ _
      (λ y. to n (T.comment_less_than_sign (read ++ b ∷ [])) stage.CommentLessThan (
        front ++ b ∷ [],
        more front e,
        ap₂ (λ (x u : List ℕ). T.comment_less_than_sign (x ++ u)) r (sym (of_byte 60 y refl)) ∙ ap T.comment_less_than_sign (sym (nul_more front)),
        opens (ap (λ d. d == 45) (eqb-true b 60 y)),
      ))
      (λ _. pick n (b == 45) _ _ _ _
      (λ y. to n (T.comment_end_dash read) stage.CommentEndDash (front, more front e ∙ ap (λ d. opener ++ (front ++ d ∷ [])) (eqb-true b 45 y), ap T.comment_end_dash r, dashes y))
      (λ k. to n (T.comment (read ++ char_of b)) stage.Comment (front ++ b ∷ [], more front e, ap T.comment (ap (λ x. x ++ char_of b) r ∙ sym (nul_more front)), opens k)))

  -- after an open comment
  after_open : (n : ℕ) (body : List ℕ) → z ≡ opener ++ body → IsOpen body → Met n (step (T.comment (without_nul body)) b) (M.comment b)
  after_open n body e h = in_comment n body (without_nul body) e refl (λ k. open_more body b h k) (λ _. open_dashed body h)

  less_than : (n : ℕ) (body : List ℕ) → z ≡ opener ++ body → IsOpen body → Met (suc n) (step (T.comment_less_than_sign (without_nul body)) b) (M.comment_less_than b)
  less_than n body e h =
      pick (suc n) (b == 33) _ _ _ _
      (λ y. to (suc n) (T.comment_less_than_sign_bang (without_nul body ++ b ∷ [])) stage.CommentBang (
        body ++ b ∷ [],
        more body e,
        ap T.comment_less_than_sign_bang (ap (λ x. without_nul body ++ x) (sym (of_byte 33 y refl)) ∙ sym (nul_more body)),
        open_more body b h (ap (λ d. d == 45) (eqb-true b 33 y)),
      ))
      (λ _. pick (suc n) (b == 60) _ _ _ _
      (λ y. to (suc n) (T.comment_less_than_sign (without_nul body ++ b ∷ [])) stage.CommentLessThan (
        body ++ b ∷ [],
        more body e,
        ap T.comment_less_than_sign (ap (λ x. without_nul body ++ x) (sym (of_byte 60 y refl)) ∙ sym (nul_more body)),
        open_more body b h (ap (λ d. d == 45) (eqb-true b 60 y)),
      ))
      (λ _. after_open n body e h))

  bang : (n : ℕ) (body : List ℕ) → z ≡ opener ++ body → IsOpen body → Met (suc n) (step (T.comment_less_than_sign_bang (without_nul body)) b) (M.comment_bang b)
  bang n body e h =
      pick (suc n) (b == 45) _ _ _ _
      (λ y. to (suc n) (T.comment_less_than_sign_bang_dash (without_nul body)) stage.CommentBangDash
      (body, more body e ∙ ap (λ d. opener ++ (body ++ d ∷ [])) (eqb-true b 45 y), refl, open_dashed body h))
      (λ _. after_open n body e h)

  -- after a dash
  past_dash : (n : ℕ) (body : List ℕ) → z ≡ opener ++ (body ++ 45 ∷ []) → IsDashed body → (b == 45) ≡ false →
      Met n (step (T.comment (without_nul body ++ codes "-")) b) (M.comment b)
  past_dash n body e h k =
      in_comment n (body ++ 45 ∷ []) (without_nul body ++ codes "-") e (sym (nul_append body (45 ∷ [])))
      (λ _. subst IsOpen (sym (append_assoc body (45 ∷ []) (b ∷ []))) (dashed_open body b h k)) (λ y. absurd (true≢false (sym y ∙ k)))

  end_dash : (n : ℕ) (body : List ℕ) → z ≡ opener ++ (body ++ 45 ∷ []) → IsDashed body → Met (suc n) (step (T.comment_end_dash (without_nul body)) b) (M.comment_end_dash b)
  end_dash n body e h =
      pick (suc n) (b == 45) _ _ _ _ (λ y. to (suc n) (T.comment_end (without_nul body)) stage.CommentEnd (body, more_byte body (45 ∷ []) 45 e y, refl))
      (λ k. past_dash n body e h k)

  bang_dash : (body : List ℕ) → z ≡ opener ++ (body ++ 45 ∷ []) → IsDashed body → Met 2 (step (T.comment_less_than_sign_bang_dash (without_nul body)) b) (M.comment_bang_dash b)
  bang_dash body e h =
      pick 2 (b == 45) _ _ _ _
      (λ y. to 2 (T.comment_less_than_sign_bang_dash_dash (without_nul body)) stage.CommentBangDashDash (body, more_byte body (45 ∷ []) 45 e y, refl))
      (λ _. end_dash 0 body e h)

  -- the end, with its last byte
  whole_with : (body v : List ℕ) (c : ℕ) → z ≡ opener ++ (body ++ v) → (b == c) ≡ true → inside (body ++ (v ++ c ∷ [])) ≡ body → without_nul body ≡ data_of (z ++ b ∷ [])
  whole_with body v c e y i = sym (ap data_of (more_byte body v c e y) ∙ ap without_nul i)

  end_of : (n : ℕ) (body : List ℕ) → z ≡ opener ++ (body ++ 45 ∷ 45 ∷ []) → Met (suc n) (step (T.comment_end (without_nul body)) b) (M.comment_end b)
  end_of n body e =
      pick (suc n) (b == 62) _ _ _ _
      (λ y. ended (suc n) (without_nul body) (begins (body ++ 45 ∷ 45 ∷ []) e) (whole_with body (45 ∷ 45 ∷ []) 62 e y (inside_arrow body)))
      (λ g. pick (suc n) (b == 33) _ _ _ _
      (λ y. to (suc n) (T.comment_end_bang (without_nul body)) stage.CommentEndBang (body, more_byte body (45 ∷ 45 ∷ []) 33 e y, refl))
      (λ x. pick (suc n) (b == 45) _ _ _ _
      (λ y. to (suc n) (T.comment_end (without_nul body ++ codes "-")) stage.CommentEnd
      (body ++ 45 ∷ [], more_byte body (45 ∷ 45 ∷ []) 45 e y ∙ ap (λ v. opener ++ v) (sym (append_assoc body (45 ∷ []) (45 ∷ 45 ∷ []))), ap T.comment_end (sym (nul_append body (45 ∷ [])))))
      (λ k. in_comment n (body ++ 45 ∷ 45 ∷ []) (without_nul body ++ codes "--") e (sym (nul_append body (45 ∷ 45 ∷ [])))
      (λ _. subst IsOpen (sym (append_assoc body (45 ∷ 45 ∷ []) (b ∷ []))) (dashes_open body b k x g)) (λ y. absurd (true≢false (sym y ∙ k))))))

  end_bang : (n : ℕ) (body : List ℕ) → z ≡ opener ++ (body ++ 45 ∷ 45 ∷ 33 ∷ []) → Met (suc n) (step (T.comment_end_bang (without_nul body)) b) (M.comment_end_bang b)
  end_bang n body e =
      pick (suc n) (b == 45) _ _ _ _
      (λ y. to (suc n) (T.comment_end_dash (without_nul body ++ codes "--!")) stage.CommentEndDash (
        body ++ 45 ∷ 45 ∷ 33 ∷ [],
        more_byte body (45 ∷ 45 ∷ 33 ∷ []) 45 e y ∙ ap (λ v. opener ++ v) (sym (append_assoc body (45 ∷ 45 ∷ 33 ∷ []) (45 ∷ []))),
        ap T.comment_end_dash (sym (nul_append body (45 ∷ 45 ∷ 33 ∷ []))),
        bang_dashed body,
      ))
      (λ k. pick (suc n) (b == 62) _ _ _ _
      (λ y. ended (suc n) (without_nul body) (begins (body ++ 45 ∷ 45 ∷ 33 ∷ []) e) (whole_with body (45 ∷ 45 ∷ 33 ∷ []) 62 e y (inside_bang_arrow body)))
      (λ g. in_comment n (body ++ 45 ∷ 45 ∷ 33 ∷ []) (without_nul body ++ codes "--!") e (sym (nul_append body (45 ∷ 45 ∷ 33 ∷ [])))
      (λ _. subst IsOpen (sym (append_assoc body (45 ∷ 45 ∷ 33 ∷ []) (b ∷ []))) (bang_open body b k g)) (λ y. absurd (true≢false (sym y ∙ k)))))

  comment_start : (n : ℕ) → z ≡ opener → Met (suc n) (step T.comment_start b) (M.comment_start b)
  comment_start n e =
      pick (suc n) (b == 45) _ _ _ _ (λ y. to (suc n) T.comment_start_dash stage.CommentStartDash (more [] e ∙ ap (λ d. opener ++ d ∷ []) (eqb-true b 45 y)))
      (λ k. pick (suc n) (b == 62) _ _ _ _ (λ y. ended (suc n) [] (begins [] e) (whole_with [] [] 62 e y refl))
      (λ g. in_comment n [] [] e refl (λ _. open_first b k g) (λ y. absurd (true≢false (sym y ∙ k)))))

  comment_start_dash : (n : ℕ) → z ≡ opener ++ 45 ∷ [] → Met (suc n) (step T.comment_start_dash b) (M.comment_start_dash b)
  comment_start_dash n e =
      pick (suc n) (b == 45) _ _ _ _ (λ y. to (suc n) (T.comment_end []) stage.CommentEnd ([], more_byte [] (45 ∷ []) 45 e y, refl))
      (λ k. pick (suc n) (b == 62) _ _ _ _ (λ y. ended (suc n) [] (begins (45 ∷ []) e) (whole_with [] (45 ∷ []) 62 e y refl))
      (λ g. in_comment n (45 ∷ []) (codes "-") e refl (λ _. open_second b k g) (λ y. absurd (true≢false (sym y ∙ k)))))

  -- markup that is none

  bogus : (n : ℕ) (read : List ℕ) → ((t : List ℕ) → data_of (z ++ b ∷ t) ≡ read ++ without_nul (take_while not_greater (b ∷ t))) → BeginsLess z →
      Met n (step (T.bogus_comment read) b) (M.bogus_comment b)
  bogus n read f g =
      pick n (b == 62) _ _ _ _
      (λ y. ended n read g (sym (f [] ∙ ap (λ x. read ++ without_nul x) (take_while-cons not_greater b [] ∙ greater y) ∙ append-nil read)))
      (λ k. to n (T.bogus_comment (read ++ char_of b)) stage.BogusComment (
        read ++ char_of b,
        refl,
        λ t. ap data_of (append_assoc z (b ∷ []) t) ∙ f t ∙ ap (λ x. read ++ x) (bogus_more m b t k) ∙ sym (append_assoc read (char_of b) (without_nul (take_while not_greater t))),
        begins_more z (b ∷ []) g,
      ))
    where
      greater : (b == 62) ≡ true → (if not_greater b then b ∷ take_while not_greater [] else []) ≡ []
      greater y = rw y refl

  -- what may become a word

  clean_parts : (c : ℕ) → is_clean c ≡ true → ((c == 62) ≡ false) × ((c == 0) ≡ false)
  clean_parts c h = here (c == 62) (c == 0) h
    where
      here : (x y : Bool) → not (x || y) ≡ true → (x ≡ false) × (y ≡ false)
      here true y h = absurd (true≢false (sym h))
      here false true h = absurd (true≢false (sym h))
      here false false h = (refl, refl)

  pub clean_stays : (v t : List ℕ) → list_all is_clean v ≡ true → without_nul (take_while not_greater (v ++ t)) ≡ v ++ without_nul (take_while not_greater t)
  clean_stays [] t h = refl
  clean_stays (c ∷ v) t h =
      let p = and_parts (is_clean c) (list_all is_clean v) h in
      let q = clean_parts c p.0 in
      bogus_more m c (v ++ t) q.0 ∙ ap₂ (λ (x y : List ℕ). x ++ y) (let e = q.1 in let one : char_of c ≡ c ∷ [] = rw e refl in one) (clean_stays v t p.1)

  flipped : (c d : ℕ) → (c == d) ≡ false → (d == c) ≡ false
  flipped c d h = grind arith

  pub no_opener : (v t : List ℕ) → starts_with ◌==◌ (v ++ t) (codes "--") ≡ false → data_of (60 ∷ 33 ∷ (v ++ t)) ≡ without_nul (take_while not_greater (v ++ t))
  no_opener v t h = rw h refl

  first_differs : (v t : List ℕ) → (b == 45) ≡ false → starts_with ◌==◌ (b ∷ t) (codes "--") ≡ false
  first_differs v t k = let e = flipped b 45 k in rw e refl

  second_differs : (t : List ℕ) → (b == 45) ≡ false → starts_with ◌==◌ (45 ∷ b ∷ t) (codes "--") ≡ false
  second_differs t k = let e = flipped b 45 k in rw e refl

  -- with a byte after which it is no opener
  pub differs : (v : List ℕ) → IsNoOpener v → bytes_eq (v ++ b ∷ []) (codes "--") ≡ false → ((b == 45) ≡ true → v ≡ [] → ⊥) → (t : List ℕ) →
      starts_with ◌==◌ ((v ++ b ∷ []) ++ t) (codes "--") ≡ false
  differs v (inl e) a never t = elim (cases_Bool (b == 45)) [
    | inl y ↦ absurd (never y e)
    | inr k ↦ ap (λ (x : List ℕ). starts_with ◌==◌ ((x ++ b ∷ []) ++ t) (codes "--")) e ∙ first_differs [] t k
  ]
  differs v (inr (inl e)) a never t = elim (cases_Bool (b == 45)) [
    | inl y ↦ (
        let both : bytes_eq (45 ∷ b ∷ []) (codes "--") ≡ false = ap (λ (x : List ℕ). bytes_eq (x ++ b ∷ []) (codes "--")) (sym e) ∙ a in
        let no : true ≡ false = rw y at both in absurd (true≢false no))
    | inr k ↦ ap (λ (x : List ℕ). starts_with ◌==◌ ((x ++ b ∷ []) ++ t) (codes "--")) e ∙ second_differs t k
  ]
  differs v (inr (inr f)) a never t = ap (λ (x : List ℕ). starts_with ◌==◌ x (codes "--")) (append_assoc v (b ∷ []) t) ∙ f (b ∷ t)

  clean_byte : (v word : List ℕ) (c : ℕ) → (b == c) ≡ true → to_ascii_lowercase c ≡ c → list_any (λ x. c == x) word ≡ false → T.begins word (v ++ b ∷ []) ≡ false
  clean_byte v word c y l h =
      let low : to_ascii_lowercase b ≡ b = ap to_ascii_lowercase (eqb-true b c y) ∙ l ∙ sym (eqb-true b c y) in
      ap (λ x. starts_with ◌==◌ word x) (lower_more b w v ∙ ap (λ d. map to_ascii_lowercase v ++ d ∷ []) low)
      ∙ never_begins b w (map to_ascii_lowercase v) word (ap (λ d. list_any (λ x. d == x) word) (eqb-true b c y) ∙ h)

  abbrev may_become : List ℕ → Bool
  may_become v = T.begins (codes "--") v || T.begins (codes "doctype") v

  word_byte : (v : List ℕ) (c : ℕ) → may_become (v ++ b ∷ []) ≡ true → to_ascii_lowercase c ≡ c → list_any (λ x. c == x) (codes "--") ≡ false →
      list_any (λ x. c == x) (codes "doctype") ≡ false → (b == c) ≡ false
  word_byte v c h l k o = elim (cases_Bool (b == c)) [
    | inl y ↦ absurd (true≢false (sym h ∙ ap₂ ◌||◌ (clean_byte v (codes "--") c y l k) (clean_byte v (codes "doctype") c y l o)))
    | inr n ↦ n
  ]

  clean_more : (v : List ℕ) → may_become (v ++ b ∷ []) ≡ true → list_all is_clean v ≡ true → list_all is_clean (v ++ b ∷ []) ≡ true
  clean_more v h cl =
      let g = word_byte v 62 h refl refl refl in
      let k = word_byte v 0 h refl refl refl in
      let one : is_clean b ≡ true = rw (g, k) refl in
      list_all-append is_clean v (b ∷ []) ∙ ap₂ (λ (x y : Bool). x && (y && true)) cl one

  no_opener_more : (v : List ℕ) → IsNoOpener v → bytes_eq (v ++ b ∷ []) (codes "--") ≡ false → IsNoOpener (v ++ b ∷ [])
  no_opener_more v (inl e) a = elim (cases_Bool (b == 45)) [
    | inl y ↦ inr (inl (ap₂ (λ (x : List ℕ) d. x ++ d ∷ []) e (eqb-true b 45 y)))
    | inr k ↦ inr (inr (differs v (inl e) a (λ y _. true≢false (sym y ∙ k))))
  ]
  no_opener_more v (inr (inl e)) a = inr (inr (differs v (inr (inl e)) a (λ y f. let no : [] ≡ 45 ∷ [] = sym f ∙ e in cc)))
  no_opener_more v (inr (inr f)) a =
      inr (inr (differs v (inr (inr f)) a (λ y e. true≢false (ap (λ (x : List ℕ). starts_with ◌==◌ (x ++ codes "--") (codes "--")) (sym e) ∙ f (codes "--")))))

  -- nothing before `>` ends it then
  none_begun : (v : List ℕ) → z ≡ 60 ∷ 33 ∷ v → IsNoOpener v → list_all is_clean v ≡ true → bytes_eq (v ++ b ∷ []) (codes "--") ≡ false → may_become (v ++ b ∷ []) ≡ false →
      (t : List ℕ) → data_of (z ++ b ∷ t) ≡ v ++ without_nul (take_while not_greater (b ∷ t))
  none_begun v e h cl a d t =
      let never : (b == 45) ≡ true → v ≡ [] → ⊥ = λ y f. true≢false (ap₂ (λ (x : List ℕ) c. may_become (x ++ c ∷ [])) (sym f) (sym (eqb-true b 45 y)) ∙ d) in
      let no : starts_with ◌==◌ (v ++ b ∷ t) (codes "--") ≡ false =
      ap (λ (x : List ℕ). starts_with ◌==◌ x (codes "--")) (sym (append_assoc v (b ∷ []) t)) ∙ differs v h a never t in
      ap (λ (x : List ℕ). data_of (x ++ b ∷ t)) e ∙ no_opener v (b ∷ t) no ∙ clean_stays v (b ∷ t) cl

  module _ (v : List ℕ) (word : w ≡ 33 ∷ v) (e : z ≡ 60 ∷ 33 ∷ v) (h : IsNoOpener v) (cl : list_all is_clean v ≡ true) where
    less : BeginsLess z
    less = subst BeginsLess (sym e) refl

    resolved : (n : ℕ) → Met (suc n) (step (T.markup_declaration_open v) b) (M.resolve_declaration (v ++ b ∷ []) b)
    resolved n =
        pick (suc n) (bytes_eq (v ++ b ∷ []) (codes "--")) _ _ _ _
        (λ y. to (suc n) T.comment_start stage.CommentStart
        (ap (λ x. x ++ b ∷ []) e ∙ ap (λ x. 60 ∷ 33 ∷ x) ((bytes_eq-Decides (v ++ b ∷ []) (codes "--")).0 y)))
        (λ a. pick (suc n) (bytes_eq (map to_ascii_lowercase (v ++ b ∷ [])) (codes "doctype")) _ _ _ _
        (λ y. to (suc n) T.doctype stage.Doctype
        (v ++ b ∷ [], [], ap (λ x. x ++ b ∷ []) e ∙ ap (λ x. 60 ∷ 33 ∷ x) (sym (append-nil (v ++ b ∷ []))), (bytes_eq-Decides (map to_ascii_lowercase (v ++ b ∷ [])) (codes "doctype")).0 y))
        (λ _. pick (suc n) (may_become (v ++ b ∷ [])) _ _ _ _
        (λ y. to (suc n) (T.markup_declaration_open (v ++ b ∷ [])) stage.Declaration
        (v ++ b ∷ [], ap (λ x. x ++ b ∷ []) word, ap (λ x. x ++ b ∷ []) e, no_opener_more v h a, clean_more v y cl))
        (λ d. bogus n v (none_begun v e h cl a d) less)))

    after_feed : (n : ℕ) → (b == 10) ≡ true → Met (suc n) (step (T.markup_declaration_open v) b) (M.bogus_comment b)
    after_feed n y =
        let low = lower_feed b w y v in
        let a = never_eq b w v (codes "--") (in_no_word b w y (codes "--") refl) in
        let c : bytes_eq (map to_ascii_lowercase (v ++ b ∷ [])) (codes "doctype") ≡ false =
        ap (λ x. bytes_eq x (codes "doctype")) low ∙ never_eq b w (map to_ascii_lowercase v) (codes "doctype") (in_no_word b w y (codes "doctype") refl) in
        let d : may_become (v ++ b ∷ []) ≡ false = ap₂ ◌||◌ (clean_byte v (codes "--") 10 y refl refl) (clean_byte v (codes "doctype") 10 y refl refl) in
        cond_both (bytes_eq (v ++ b ∷ []) (codes "--")) _ _ (λ x. Met (suc n) x (M.bogus_comment b)) (λ t. absurd (true≢false (sym t ∙ a)))
        (λ _. cond_both (bytes_eq (map to_ascii_lowercase (v ++ b ∷ [])) (codes "doctype")) _ _ (λ x. Met (suc n) x (M.bogus_comment b)) (λ t. absurd (true≢false (sym t ∙ c)))
        (λ _. cond_both (may_become (v ++ b ∷ [])) _ _ (λ x. Met (suc n) x (M.bogus_comment b))
        (λ t. absurd (true≢false (sym t ∙ d))) (λ _. bogus n v (none_begun v e h cl a d) less)))

    declaration : (n : ℕ) → Met (suc n) (step (T.markup_declaration_open v) b) (M.declaration w b)
    declaration n =
        subst (λ (x : List ℕ). Met (suc n) (step (T.markup_declaration_open v) b) (M.declaration x b)) (sym word)
        (cond_both (b == 10) _ _ (Met (suc n) (step (T.markup_declaration_open v) b)) (λ y. after_feed n y) (λ _. resolved n))

  -- each stage of a comment

  by_steps : (s u : State) (ts : List HtmlToken) (o : Turn) → s ≡ u → ts ≡ [] → is_at_rest u ≡ false → Met 2 (step u b) o → Kept m b z w s ts o
  by_steps s u ts o e t r h =
      subst (λ (x : State). Kept m b z w x ts o) (sym e)
      (subst (λ us. Kept m b z w u us o) (sym t) (kept_by m b z w u [] o (G.turned b P K 2 [] u o r h)))

  pub comment_kept : (c : Stage) (s : State) (ts : List HtmlToken) → is_comment c ≡ true → ts ≡ [] → IsStage w c s ts → Content m c z w s ts → Kept m b z w s ts (M.turn c w b)
  comment_kept stage.BogusComment s ts y t i (read, e, f, g) = by_steps s _ ts _ e t refl (bogus 2 read (λ u. f (b ∷ u)) g)
  comment_kept stage.Declaration s ts y t (v0, x0, e, t0) (v, x, k, h, cl) =
      let same : 33 ∷ v0 ≡ 33 ∷ v = sym x0 ∙ x in
      let is : v0 ≡ v = cc in
      by_steps s (T.markup_declaration_open v) ts _ (e ∙ ap T.markup_declaration_open is) t refl (declaration v x k h cl 1)
  comment_kept stage.CommentStart s ts y t (e, t0) k = by_steps s _ ts _ e t refl (comment_start 1 k)
  comment_kept stage.CommentStartDash s ts y t (e, t0) k = by_steps s _ ts _ e t refl (comment_start_dash 1 k)
  comment_kept stage.Comment s ts y t i (body, k, e, h) = by_steps s _ ts _ e t refl (after_open 2 body k h)
  comment_kept stage.CommentLessThan s ts y t i (body, k, e, h) = by_steps s _ ts _ e t refl (less_than 1 body k h)
  comment_kept stage.CommentBang s ts y t i (body, k, e, h) = by_steps s _ ts _ e t refl (bang 1 body k h)
  comment_kept stage.CommentBangDash s ts y t i (body, k, e, h) = by_steps s _ ts _ e t refl (bang_dash body k h)
  comment_kept stage.CommentBangDashDash s ts y t i (body, k, e) = by_steps s _ ts _ e t refl (end_of 0 body k)
  comment_kept stage.CommentEndDash s ts y t i (body, k, e, h) = by_steps s _ ts _ e t refl (end_dash 1 body k h)
  comment_kept stage.CommentEnd s ts y t i (body, k, e) = by_steps s _ ts _ e t refl (end_of 1 body k)
  comment_kept stage.CommentEndBang s ts y t i (body, k, e) = by_steps s _ ts _ e t refl (end_bang 1 body k)
  comment_kept _ s ts y t i h = absurd (true≢false (sym y))
