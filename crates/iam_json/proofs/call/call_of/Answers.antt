use Rattle.iam_json.proofs.call.call_of.Goals as goal

pub returns-in-TestPermissions : goal.returns-in-TestPermissions
returns-in-TestPermissions c = rw c.in-TestPermissions.is (rw c.as_slice-parts.ensures at c.permissions_test.ensures)

pub returns-in-ReadPolicy : goal.returns-in-ReadPolicy
returns-in-ReadPolicy c = rw c.in-ReadPolicy.is (rw c.as_slice-parts.ensures at c.policy_reading.ensures)

pub returns-in-SetPolicy : goal.returns-in-SetPolicy
returns-in-SetPolicy c = rw c.in-SetPolicy.is (rw c.as_slice-parts.ensures at c.policy_setting.ensures)

pub returns-in-RenameFolder : goal.returns-in-RenameFolder
returns-in-RenameFolder c = rw c.in-RenameFolder.is (rw c.as_slice-parts.ensures at c.folder_renaming.ensures)
