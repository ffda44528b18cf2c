-- What `not` says of a test: the library's laws, passed on.
pub use Rattle.std.proofs.lemmas.Bool.{not-true, not-false}
