-- The integers as an ordered commutative ring: laws, linear facts, identities, sign certificates and bounds. Assumes nothing.
pub mod Linear
pub mod Laws
pub mod Solver
pub mod Certificate
pub mod Fits
