-- Lists in version order, by membership and by index. Assumes nothing.
use Rattle.std.proofs.Common.{◌≡◌, Bool, true, List, [], ◌∷◌, sym, refl, subst, ⊎_elim}
use mathlib.Core.List.Memᴰ
use mathlib.Core.List.{Memᴰ}
use Rattle.std.proofs.lemmas.Bool.{and_parts, and_from}
use Rattle.std.specs.List.{list_all}
use Rattle.version.specs.Order.{before, sorted}
use Rattle.version.specs.declared.types.Version.{Version}

infix 4 ◌∈◌
abbrev pub ◌∈◌ {ℓ} : {A : Type ℓ} → A → List A → Type ℓ
x ∈ xs = Memᴰ x xs

-- ---- by membership

pub each_of : {A : Type 0} (f : A → Bool) (vs : List A) → list_all f vs ≡ true → (w : A) → w ∈ vs → f w ≡ true
each_of f [] e w m = absurd (Memᴰ.not-nil m)
each_of f (v ∷ vs) e w m =
    let p = and_parts (f v) (list_all f vs) e in
    ⊎_elim (λ (q : w ≡ v). subst (λ x. f x ≡ true) (sym q) p.0) (λ n. each_of f vs p.1 w n) (Memᴰ.cases_cons m)

pub every_from : {A : Type 0} (f : A → Bool) (vs : List A) → ((w : A) → w ∈ vs → f w ≡ true) → list_all f vs ≡ true
every_from f [] h = refl
every_from f (v ∷ vs) h = and_from (f v) (list_all f vs) (h v (Memᴰ.head refl)) (every_from f vs (λ w m. h w (Memᴰ.tail m)))

abbrev pub Ahead : Version → List Version → Type 0
Ahead v vs = (w : Version) → w ∈ vs → before v w ≡ true

abbrev pub Sorted : List Version → Type 0
Sorted [] = Unit {0}
Sorted (v ∷ vs) = Ahead v vs × Sorted vs

pub sorts : (vs : List Version) → sorted vs ≡ true → Sorted vs
sorts [] e = tt
sorts (v ∷ vs) e = let p = and_parts (list_all (before v) vs) (sorted vs) e in (each_of (before v) vs p.0, sorts vs p.1)

pub sorted_from : (vs : List Version) → Sorted vs → sorted vs ≡ true
sorted_from [] s = refl
sorted_from (v ∷ vs) s = and_from (list_all (before v) vs) (sorted vs) (every_from (before v) vs s.0) (sorted_from vs s.1)
