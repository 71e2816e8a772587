-- For a function under `trace`: only contracts of private functions and proofs cite what is here.
use Rattle.r8_core.specs.declared.ListingError.{ListingError}
use Rattle.r8_core.specs.declared.ListingError.TheVariants as listing_error
use Rattle.trace.specs.declared.TraceError.{TraceError}
use Rattle.trace.specs.declared.TraceError.TheVariants.{Faulty, TooLong}

-- why a listing that is not loaded is not traced: its fault; that nothing else comes of a load is what `traced` says
abbrev pub error_of : ListingError → TraceError
error_of (listing_error.Faulty at) = Faulty at
error_of (listing_error.Refused why) = TooLong
