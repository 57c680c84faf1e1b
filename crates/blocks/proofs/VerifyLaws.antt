-- What the answer of `blocks::verify` says of a file: it is verified, with its payload's length, or why it is refused.
use mathlib.Core.Path.{◌≡◌, refl, sym}
use mathlib.Core.List.{List}
use Prim.Native.Nat.{ℕ, ◌+◌, ◌*◌, ◌-◌, ◌/◌}
use native.Mathlib.Omega.{arith}
use lib.ListN.{length}
use Rattle.rules.specs.declared.answers.Reason.{Reason}
use Rattle.std.specs.Prelude.{Result, Ok, Err}
use Rattle.rules.specs.Answers.{refusal_of, told, length_of}
use Rattle.rules.specs.Base.{Refusal, Tried, found, refused, Check, passed, word_at}
use Rattle.rules.specs.Container.{verify, payload, verified}
use Rattle.rules.specs.Established.{Measured}
use Rattle.rules.proofs.ContainerLaws.{verified_length}
use Rattle.rules.proofs.TriedLaws.{found_inj, refused_found}

-- a verified payload has the length that the last used count gives
pub measured_last : (file : List ℕ) (n : ℕ) → verify file ≡ passed
    → n ≡ 504 * (length file / 512 - 1) + word_at file (512 * (length file / 512 - 1) + 2) → Measured file n
measured_last file n e l =
    let h = verified_length file e in
    record { verified = record { blocks = e; small = h.2 }; long = omega (arith, h.0) }

-- what verified blocks are found to hold
pub verified_passed : (file : List ℕ) → verify file ≡ passed → verified file ≡ found (payload file)
unfolding verified
verified_passed file e = rw e

pub verified_stopped : (file : List ℕ) {r : Refusal} → verify file ≡ refused r → verified file ≡ refused r
unfolding verified
verified_stopped file e = rw e

pub measured_told : {file : List ℕ} {n : ℕ} → Measured file n → found n ≡ length_of (verified file)
measured_told {file} o = rw (verified_passed file o.verified.blocks, o.long)

-- from the answer that `verify` ensures
module _ (file : List ℕ) {r : Result ℕ Reason} (says : told r ≡ length_of (verified file)) where
  pub verified_measured : {n : ℕ} → r ≡ Ok n → Measured file n
  verified_measured {n} e = go (verify file) refl (rw e at says)
    where
      go : (t : Check) → verify file ≡ t → found n ≡ length_of (verified file) → Measured file n
      go (found u) v l =
          let h = verified_length file v in
          let same : n ≡ length (payload file) = found_inj (rw (verified_passed file v) at l) in
          record { verified = record { blocks = v; small = h.2 }; long = same }
      go (refused q) v l = absurd (refused_found (sym (rw (verified_stopped file v) at l)))

  pub verified_refused : {reason : Reason} → r ≡ Err reason → verified file ≡ refused (refusal_of reason)
  verified_refused {reason} e = go (verified file) (rw e at says)
    where
      go : (t : Tried (List ℕ)) → refused (refusal_of reason) ≡ length_of t → t ≡ refused (refusal_of reason)
      go (found bytes) l = absurd (refused_found l)
      go (refused q) l = cc
