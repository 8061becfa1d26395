-- how a failure ends a program
use Rattle.std.proofs.Common.{◌≡◌, ◌≢◌, ℕ, inl, inr, refl, subst}
use Rattle.std.specs.Prelude.{List}
use Rattle.ultra_isa.specs.declared.Instr.{Instr}
use Rattle.ultra_model.specs.Machine.{Settings}
use Rattle.ultra_inputs.specs.{declared.failure.Failure.Failure, Failure.{status_of, read_failures, write_failures}, Status.{IsStatus, IsRefusal, status_failures}, Traffic.{Traffic, IsStopped, TextFails, refused, stopped}}
use Rattle.ultra_inputs.specs.declared.failure.Failure.TheVariants.{Usage, ArgumentsNotUtf8, NotRead, NotToml, BadField, UnknownKey, NotUtf8, BadProgramLine, BadJob, NotAnEntry, BadPe, NotFenced, NotLegal, BadParameter, NoMemory, NoThread, HeapTooSmall, HeapFull, NotWritten}

one : IsStatus 1
one = inr (inl refl)

two : IsStatus 2
two = inr (inr (inl refl))

three : IsStatus 3
three = inr (inr (inr (inl refl)))

four : IsStatus 4
four = inr (inr (inr (inr (inl refl))))

five : IsStatus 5
five = inr (inr (inr (inr (inr refl))))

-- the status of a failure, and how often the source of files and standard output failed
pub record Ends (f : Failure) : Type 0 where
  pub status : IsStatus (status_of f)
  pub bad : status_of f ≢ 0
  pub unread : status_of f ≢ 3 → read_failures f ≡ 0
  pub written : write_failures f ≡ status_failures (status_of f)

pub ends : (f : Failure) → Ends f
ends (Usage t) = record { status = two; bad = λ e. cc; unread = λ ne. refl; written = refl }
ends ArgumentsNotUtf8 = record { status = two; bad = λ e. cc; unread = λ ne. refl; written = refl }
ends (NotRead p) = record { status = three; bad = λ e. cc; unread = λ ne. absurd (ne refl); written = refl }
ends (NotToml p) = record { status = three; bad = λ e. cc; unread = λ ne. refl; written = refl }
ends (BadField p f) = record { status = three; bad = λ e. cc; unread = λ ne. refl; written = refl }
ends (UnknownKey p) = record { status = three; bad = λ e. cc; unread = λ ne. refl; written = refl }
ends (NotUtf8 p) = record { status = three; bad = λ e. cc; unread = λ ne. refl; written = refl }
ends (BadProgramLine p l k) = record { status = three; bad = λ e. cc; unread = λ ne. refl; written = refl }
ends (BadJob p) = record { status = three; bad = λ e. cc; unread = λ ne. refl; written = refl }
ends (NotAnEntry p l) = record { status = three; bad = λ e. cc; unread = λ ne. refl; written = refl }
ends (BadPe p l) = record { status = three; bad = λ e. cc; unread = λ ne. refl; written = refl }
ends (NotFenced p k) = record { status = one; bad = λ e. cc; unread = λ ne. refl; written = refl }
ends NotLegal = record { status = one; bad = λ e. cc; unread = λ ne. refl; written = refl }
ends BadParameter = record { status = three; bad = λ e. cc; unread = λ ne. refl; written = refl }
ends NoMemory = record { status = four; bad = λ e. cc; unread = λ ne. refl; written = refl }
ends NoThread = record { status = four; bad = λ e. cc; unread = λ ne. refl; written = refl }
ends HeapTooSmall = record { status = four; bad = λ e. cc; unread = λ ne. refl; written = refl }
ends HeapFull = record { status = four; bad = λ e. cc; unread = λ ne. refl; written = refl }
ends NotWritten = record { status = five; bad = λ e. cc; unread = λ ne. refl; written = refl }

-- want of memory or of a thread, a full heap and a failed write are no refusals
pub not_four : ¬ IsRefusal 4
not_four (inl e) = cc
not_four (inr e) = cc

pub not_five : ¬ IsRefusal 5
not_five (inl e) = cc
not_five (inr e) = cc

pub ended_by : (f g : Failure) → f ≡ g → ¬ IsRefusal (status_of g) → ¬ IsRefusal (status_of f)
ended_by f g same never r = never (subst (λ x. IsRefusal (status_of x)) same r)

pub is_unwritten : (f : Failure) → f ≡ NotWritten → ¬ IsRefusal (status_of f)
is_unwritten f e = ended_by f NotWritten e not_five

pub is_stopped : (f : Failure) → IsStopped f → ¬ IsRefusal (status_of f)
is_stopped f (inl e) = ended_by f NoMemory e not_four
is_stopped f (inr e) = is_unwritten f e

-- a command that fails to write a text has written nothing where an input is refused
module _ (conf prog : List ℕ) (old new : Traffic) (f : Failure) (text : Settings → List Instr → List ℕ) where
  pub text_refused : (Stops : Failure → Type 0) → (Stops f → ¬ IsRefusal (status_of f)) → TextFails text Stops conf prog old new f → IsRefusal (status_of f) → new.written ≡ old.written
  text_refused Stops why (refused gave same) r = same
  text_refused Stops why (stopped c p gave stops begun) r = absurd (why stops r)

  pub stopped_refused : TextFails text IsStopped conf prog old new f → IsRefusal (status_of f) → new.written ≡ old.written
  stopped_refused = text_refused IsStopped (is_stopped f)
