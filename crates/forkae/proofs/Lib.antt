mod PaefSteps
mod SaefSteps
