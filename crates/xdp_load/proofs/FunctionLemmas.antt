-- The first fault of settings beside a program or a function.
use Rattle.std.proofs.Common.{◌≡◌, ℕ, List, Result, Ok, ap, inl, inr, subst, sym}
use Rattle.xdp_load.specs.Function.{BesideView, beside_of, listed_in_beside}
use Rattle.xdp_load.specs.FunctionSeen.{IsBesideError}
use Rattle.xdp_load.specs.Gives.{Fails, ◌>>=◌}
use Rattle.xdp_load.specs.ListedFault.{IsListError}
use Rattle.xdp_load.specs.ListedSound.{IsListedSound}
use Rattle.xdp_load.specs.Spot.{Refused}
use Rattle.xdp_load.specs.declared.fault.LoadError.{LoadError}
use Rattle.xdp_load.specs.declared.fault.LoadError.TheVariants as error
use Rattle.xdp_load.proofs.ListedSoundLemmas.{beside_sound}

-- what fails to be read
pub unread : (text : List ℕ) (e : LoadError) → Fails e (beside_of text) → IsBesideError text e
unread text error.Memory h = tt
unread text (error.Refused r) h = inl h

-- what is read, with a list that no map can have
pub unlisted : (text : List ℕ) (b : BesideView) (e : LoadError) → beside_of text ≡ Ok b → IsListError (listed_in_beside b).lists e → IsBesideError text e
unlisted text b error.Memory h u = tt
unlisted text b (error.Refused f) h u =
    let (n, spot, first) = u in
    inr (listed_in_beside b, n, ap (λ (x : Result BesideView Refused). x >>= (λ b. Ok (listed_in_beside b))) h, spot, first)

-- what is read is sound, once its lists are sorted
pub sorted_sound : (text : List ℕ) (b c : BesideView) → beside_of text ≡ Ok b → c ≡ b → IsListedSound (listed_in_beside c)
sorted_sound text b c h e = subst (λ (x : BesideView). IsListedSound (listed_in_beside x)) (sym e) (beside_sound text b h)
