-- That a version which goes in leaves the others as they stand, for every kind of part.
use Rattle.std.specs.Prelude.{◌≡◌, List, [], ◌∷◌, ◌++◌}
use Rattle.std.proofs.Common.{sym, refl, ap}
use Rattle.std.proofs.lemmas.Bool.{cond_both}
use Rattle.std.proofs.lemmas.List.{append-nil}
use Rattle.version.specs.Lists.{insert}
use Rattle.version.specs.Order.{before}
use Rattle.version.specs.declared.types.Version.{Version}

-- new is vs with v between some of them, us, and the rest
abbrev pub StandsBetween : List Version → Version → List Version → Type 0
StandsBetween vs v new = (us : List Version) × (ws : List Version) × (vs ≡ us ++ ws) × (new ≡ us ++ v ∷ ws)

pub inserted : (vs : List Version) (v : Version) → StandsBetween vs v (insert vs v)
inserted [] v = ([], [], refl, refl)
inserted (w ∷ ws) v = cond_both (before v w) (v ∷ w ∷ ws) (w ∷ insert ws v) (StandsBetween (w ∷ ws) v)
    (λ _. ([], w ∷ ws, refl, refl))
    (λ _. let i = inserted ws v in (w ∷ i.0, i.1, ap (λ l. w ∷ l) i.2, ap (λ l. w ∷ l) i.3))

pub appended : (vs : List Version) (v : Version) → StandsBetween vs v (vs ++ v ∷ [])
appended vs v = (vs, [], sym (append-nil vs), refl)
