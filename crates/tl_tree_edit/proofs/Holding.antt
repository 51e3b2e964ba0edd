-- What a truth value says that holds exactly where something does.
use Rattle.std.proofs.Common.{Bool, false, sym, true≢false, ◌≡◌, ◌↔◌, ◌∙◌, true}
use Rattle.std.specs.Bool.{IsTrue}

pub refuted : {P E : Type 0} (r : Bool) → IsTrue r ↔ P → r ≡ false → (E → P) → IsTrue false ↔ E
refuted r i f g = (λ t. absurd (true≢false (sym t)), λ e. sym f ∙ i.1 (g e))

pub confirmed : {P E : Type 0} (r : Bool) → IsTrue r ↔ P → (E → P) → (P → E) → IsTrue r ↔ E
confirmed r i f g = (λ t. g (i.0 t), λ e. i.1 (f e))

pub holds : {P : Type 0} (r : Bool) → IsTrue r ↔ P → r ≡ true → P
holds r i t = i.0 t
