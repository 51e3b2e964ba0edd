-- What a builder has taken, as the tokens of what the tokenizer emits.
use Rattle.std.proofs.Common.{List, [], ap, map, refl, sym, ◌∙◌, ◌≡◌, ◌∷◌, ℕ}
use Rattle.tl_dom_spec.specs.Builder.{Builder, a_character}
use Rattle.tl_dom_spec.specs.Dispatcher.{token_done, tokens_done}
use Rattle.tl_dom_spec.specs.Driver.{builder, emitted_token}
use Rattle.tl_dom_spec.proofs.TreesFollow.{taken_tokens}
use Rattle.tl_html_spec.specs.Driven.{Emission, characters, taken}

emitted-characters : (cs : List ℕ) → map emitted_token (characters cs) ≡ map a_character cs
emitted-characters [] = refl
emitted-characters (c ∷ cs) = ap (λ tokens. a_character c ∷ tokens) (emitted-characters cs)

-- characters
pub taken-characters : (b : Builder) (cs : List ℕ) → taken builder b (characters cs) ≡ tokens_done b (map a_character cs)
taken-characters b cs = taken_tokens b (characters cs) ∙ ap (tokens_done b) (emitted-characters cs)

pub characters-taken : (b b' : Builder) (emits : List Emission) (cs : List ℕ) → b' ≡ tokens_done b (map a_character cs) → emits ≡ characters cs → b' ≡ taken builder b emits
characters-taken b b' emits cs e are = e ∙ (sym (taken-characters b cs) ∙ ap (taken builder b) (sym are))

-- one token
pub one-taken : (b b' : Builder) (emits : List Emission) (emission : Emission) → b' ≡ token_done b (emitted_token emission) → emits ≡ emission ∷ [] → b' ≡ taken builder b emits
one-taken b b' emits emission e are = e ∙ ap (taken builder b) (sym are)

-- none
pub none-taken : (b b' : Builder) (emits : List Emission) → b' ≡ b → emits ≡ [] → b' ≡ taken builder b emits
none-taken b b' emits e are = e ∙ ap (taken builder b) (sym are)
