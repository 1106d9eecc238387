-- The commands of a script are of its clients.
use Rattle.std.proofs.Common.{◌≡◌, ◌<◌, ◌≤◌, ◌++◌, ℕ, zero, suc, Bool, List, [], ◌∷◌, take, slice_get, Option, None, Some, refl, sym, ap, ◌∙◌, subst, arith, append_assoc, append-nil}
use Rattle.nuc_script.specs.Commands.{clients_in, clients_of}
use Rattle.nuc_script.specs.Fitting.{FitBehind, Fits}
use Rattle.nuc_script.specs.Lines.{is_begun}
use Rattle.nuc_script.specs.declared.command.Command.{Command}
use Rattle.nuc_script.specs.declared.command.Command.TheVariants as command
use Rattle.nuc_run.specs.Scripts.{IsClientOf, IsOf}

-- the number of clients is one that a world may have
first_within : (c : Command) → Fits 1 (is_begun []) c → (0 < clients_in c) × (clients_in c ≤ 16)
first_within (command.Clients count) fits = (omega (arith, fits.1.0), fits.1.1)
first_within c fits = (omega arith, omega arith)

pub clients_within : (cs : List Command) → FitBehind [] cs → (0 < clients_of cs) × (clients_of cs ≤ 16)
clients_within [] fit = (omega arith, omega arith)
clients_within (c ∷ cs) fit = first_within c fit.0

client_fits : (clients client : ℕ) → (1 ≤ client) × (client ≤ clients) → IsClientOf clients client
client_fits clients client up = (omega (arith, up.0), up.1)

fits_of : (clients : ℕ) (begun : Bool) (c : Command) → Fits clients begun c → IsOf clients c
fits_of clients begun (command.Clients count) fits = tt
fits_of clients begun (command.User client edit) fits = client_fits clients client fits.0
fits_of clients begun (command.Web edit) fits = tt
fits_of clients begun (command.List client) fits = client_fits clients client fits
fits_of clients begun (command.Scan client) fits = client_fits clients client fits
fits_of clients begun (command.Watch client) fits = client_fits clients client fits
fits_of clients begun (command.Pull client) fits = client_fits clients client fits
fits_of clients begun (command.Plan client) fits = client_fits clients client fits
fits_of clients begun (command.Restart client) fits = client_fits clients client fits
fits_of clients begun (command.Start client number) fits = client_fits clients client fits.0
fits_of clients begun (command.Take client number) fits = client_fits clients client fits.0
fits_of clients begun (command.Done client number) fits = client_fits clients client fits.0
fits_of clients begun (command.Sync client backwards) fits = client_fits clients client fits
fits_of clients begun (command.Fail client call) fits = (client_fits clients client fits.0, omega (arith, fits.1.0))

-- a first command that says nothing of clients is of one
first_of : (c : Command) → Fits 1 (is_begun []) c → IsOf (clients_in c) c
first_of (command.Clients count) fits = tt
first_of c fits = fits_of 1 (is_begun []) c fits

same_command : (x y : Command) → Some x ≡ Some y → x ≡ y
same_command x y e = cc

fit_at : (before cs : List Command) (i : ℕ) (c : Command) → FitBehind before cs → slice_get cs i ≡ Some c
    → Fits (clients_of (before ++ take i cs)) (is_begun (before ++ take i cs)) c
fit_at before [] zero c fit at = cc
fit_at before [] (suc i) c fit at = cc
fit_at before (d ∷ ds) zero c fit at =
    subst (λ bs. Fits (clients_of bs) (is_begun bs) c) (sym (append-nil before))
    (subst (λ e. Fits (clients_of before) (is_begun before) e) (same_command d c at) fit.0)
fit_at before (d ∷ ds) (suc i) c fit at =
    subst (λ bs. Fits (clients_of bs) (is_begun bs) c) (append_assoc before (d ∷ []) (take i ds)) (fit_at (before ++ d ∷ []) ds i c fit.1 at)

pub of_script : (cs : List Command) (i : ℕ) (c : Command) → FitBehind [] cs → slice_get cs i ≡ Some c → IsOf (clients_of cs) c
of_script [] zero c fit at = cc
of_script [] (suc i) c fit at = cc
of_script (d ∷ ds) zero c fit at = subst (λ e. IsOf (clients_in d) e) (same_command d c at) (first_of d fit.0)
of_script (d ∷ ds) (suc i) c fit at = fits_of (clients_in d) (is_begun (d ∷ take i ds)) c (fit_at (d ∷ []) ds i c fit.1 at)
