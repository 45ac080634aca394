-- For proofs: no claim rests on this file.
pub mod Backs
pub mod Ended
pub mod Ends
pub mod Ghosts
pub mod Inv
pub mod Joined
pub mod Laid
pub mod Laws
pub mod Numbers
pub mod Rest
