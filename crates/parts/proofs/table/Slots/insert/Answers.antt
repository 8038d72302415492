use Rattle.std.proofs.Common.{◌≡◌, ℕ, suc, ◌+◌, ◌-◌, ◌<◌, ◌≤◌, List, length, get_or, take, set, sym, ap, ◌∙◌, ⊎_elim, arith}
use Rattle.std.specs.List.{insert}
use Rattle.std.proofs.lemmas.List.Edits.{length-insert, get_or-insert_below, get_or-insert_at, get_or-insert_above}
use Rattle.std.proofs.lemmas.List.{same_lists, length-set, length-take-le, get_or-set_same, get_or-set_other, get_or-take}
use Rattle.std.proofs.lemmas.Bool.{cases_eq, cases_lt}
use Rattle.version.specs.declared.types.Version.{Version}
use Rattle.parts.proofs.table.Slots.insert.Goals as goal

-- the version goes into the gap that the later ones have left
filled : (xs ys : List Version) (at n : ℕ) (v : Version) → n < length xs → length xs ≡ length ys → at ≤ n
    → ((k : ℕ) (d : Version) → k ≤ at → get_or xs k d ≡ get_or ys k d)
    → ((k : ℕ) (d : Version) → at ≤ k → k < n → get_or xs (suc k) d ≡ get_or ys k d)
    → take (n + 1) (set xs at v) ≡ insert (take n ys) at v
filled xs ys at n v l same h low high =
    let ln : length (take n ys) ≡ n = length-take-le n ys (omega arith) in
    same_lists (take (n + 1) (set xs at v)) (insert (take n ys) at v)
    (length-take-le (n + 1) (set xs at v) (omega (arith, length-set xs at v)) ∙ sym (length-insert (take n ys) at v (omega arith) ∙ ap (λ m. m + 1) ln))
    (λ k d q.
    let k< : k < n + 1 = omega (arith, length-take-le (n + 1) (set xs at v) (omega (arith, length-set xs at v))) in
    get_or-take (n + 1) (set xs at v) k d k< ∙ ⊎_elim
    (λ (b : k < at). get_or-set_other xs at k v d (λ z. omega arith) ∙ low k d (omega arith) ∙ sym (get_or-take n ys k d (omega arith)) ∙ sym (get_or-insert_below (take n ys) at v d k b (omega arith)))
    (λ b. ⊎_elim
    (λ (e : k ≡ at). ap (λ j. get_or (set xs at v) j d) e ∙ get_or-set_same xs at v d (omega arith) ∙ sym (get_or-insert_at (take n ys) at v d (omega arith)) ∙ ap (λ j. get_or (insert (take n ys) at v) j d) (sym e))
    (λ e.
    let j = k - 1 in
    let kj : k ≡ suc j = omega arith in
    let kp : k ≡ j + 1 = omega arith in
    get_or-set_other xs at k v d e ∙ ap (λ i. get_or xs i d) kj ∙ high j d (omega arith) (omega arith) ∙ sym (get_or-take n ys j d (omega arith)) ∙ sym (get_or-insert_above (take n ys) at v d j (omega arith) (omega arith)) ∙ ap (λ i. get_or (insert (take n ys) at v) i d) (sym kp))
    (cases_eq k at))
    (cases_lt k at))

pub returns-clause-list : goal.returns-clause-list
returns-clause-list c =
    let moved = c.copy_within.ensures.by_index in
    filled c.copy_within.new.self c.args.self.now.slots.now c.args.at c.args.self.now.used c.args.version (omega (arith, c.copy_within.ensures.len, c.requires.room)) c.copy_within.ensures.len c.requires.within
    (λ k d h. moved.1 k d (omega arith))
    (λ k d h i. let back : c.args.at + (suc k - (c.args.at + 1)) ≡ k = omega arith in moved.0 (suc k) d (omega arith) (omega arith) ∙ ap (λ j. get_or c.args.self.now.slots.now j d) back)
