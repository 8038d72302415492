use Rattle.std.proofs.Common.{◌≡◌, ℕ, ◌+◌, ◌*◌, List, [], ◌∷◌, ◌++◌, length, sym, ap, ◌∙◌, subst}
use Rattle.bits.specs.Fields.{Wrote}
use Rattle.version.specs.Lists.{left_by}
use Rattle.version.specs.Order.{Kept}
use Rattle.version.specs.declared.types.Version.{Version}
use Rattle.parts.specs.Packed.{room, record_number, version_at, versions_in, Packs}
use Rattle.parts.proofs.Records.{length_versions, versions_more, packs_more}
use Rattle.parts.proofs.packed.PackedFlashTakingPartFlash.take.Goals as goal

-- what is known once the record is written
pub record Written (xs ys : List ℕ) (n : ℕ) (v : Version) : Type 0 where
  pub wrote : Wrote xs ys (81 * n) 81 (record_number v)
  pub more : versions_in ys (n + 1) ≡ versions_in xs n ++ (v ∷ [])

written : (xs ys zs : List ℕ) (n : ℕ) (v : Version) → zs ≡ xs → Wrote zs ys (81 * n) 81 (record_number v) → version_at ys (81 * n) ≡ v → Written xs ys n v
written xs ys zs n v e w says =
    let wrote = subst (λ b. Wrote b ys (81 * n) 81 (record_number v)) e w in
    record { wrote = wrote; more = versions_more xs ys n (record_number v) v wrote says }

pub invariant_of-self : goal.invariant_of-self
invariant_of-self c =
    let s = c.args.self.now in
    let v = c.args.version in
    let ys = c.write_record.new.bytes in
    let w = written s.bytes.now ys c.take-bytes.result.now s.used v (ap (λ b. b.now) c.take-bytes.ensures.value) c.write_record.ensures.wrote c.write_record.ensures.says in
    let in_place = c.in_ok-admitted.ensures in
    let kept = subst (λ l. Kept l s.limit) (sym w.more) (in_place.2.kept s.limit s.kept in_place.1) in
    let exact = subst (Packs ys) (sym w.more) (packs_more s.bytes.now ys s.used v (versions_in s.bytes.now s.used) s.counted w.wrote s.exact) in
    let roomy : s.limit ≡ room (length ys) = s.roomy ∙ ap room (sym w.wrote.long) in
    record { roomy = roomy; counted = length_versions ys (s.used + 1); kept = kept; exact = exact }

pub returns-clause-list : goal.returns-clause-list
returns-clause-list c =
    let s = c.args.self.now in
    let v = c.args.version in
    let vs = versions_in s.bytes.now s.used in
    let w = written s.bytes.now c.write_record.new.bytes c.take-bytes.result.now s.used v (ap (λ b. b.now) c.take-bytes.ensures.value) c.write_record.ensures.wrote c.write_record.ensures.says in
    w.more ∙ ap (λ r. left_by r vs (vs ++ v ∷ [])) (sym c.in_ok-admitted.ensures.0)
